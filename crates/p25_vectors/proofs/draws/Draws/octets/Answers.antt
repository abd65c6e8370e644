use Rattle.std.proofs.{Common.{◌≡◌, ◌%◌, ◌<◌, ℕ, List, [], ◌∷◌, ◌++◌, length, refl, ap, ap₂, sym, ◌∙◌, arith}, lemmas.List.{take_more_set, length-replicate, length-set}}
use Rattle.p25_vectors.specs.Draws.{draw, state_after}
use Rattle.p25_vectors.proofs.DrawsLaws.{octets_drawn-none, octets_drawn-more, state_after-none, state_after-add}
use Rattle.p25_vectors.proofs.draws.Draws.octets.Goals as goal

pub loop-i-init : goal.loop-i-init
loop-i-init g c = record { octets = sym (octets_drawn-none c.args.self.now); len = refl; state = sym (state_after-none c.args.self.now) }

pub loop-i-preserved : goal.loop-i-preserved
loop-i-preserved g c =
    let i = c.loop-i.i in
    let now = c.loop-i.invariant.state in
    let octet : c.octet.result ≡ draw 0 (state_after i c.args.self.now) % 256 = c.octet.ensures.value ∙ ap (λ s. draw 0 s % 256) now in
    let inside : i < length c.loop-i.octets = omega (arith, c.loop-i.invariant.len, length-replicate {A = ℕ} g.row.N 0, c.loop-i-test.true) in
    record {
      octets =
          take_more_set c.loop-i.octets i c.octet.result inside
          ∙ ap₂ (λ (xs : List ℕ) (x : ℕ). xs ++ x ∷ []) c.loop-i.invariant.octets octet
          ∙ sym (octets_drawn-more i c.args.self.now);
      len = length-set c.loop-i.octets i c.octet.result ∙ c.loop-i.invariant.len;
      state = c.octet.ensures.state ∙ ap (state_after 1) now ∙ state_after-add i 1 c.args.self.now;
    }
