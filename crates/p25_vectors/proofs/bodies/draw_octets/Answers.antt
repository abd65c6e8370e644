use Rattle.std.proofs.Common.{◌≡◌, ◌+◌, ◌%◌, ℕ, List, [], ◌∷◌, ◌++◌, length, ap, ap₂, sym, ◌∙◌}
use Rattle.p25_vectors.specs.Draws.{draw, state_after}
use Rattle.p25_vectors.proofs.DrawsLaws.{octets_drawn-none, octets_drawn-more, state_after-none, state_after-add}
use Rattle.p25_vectors.proofs.bodies.draw_octets.Goals as goal

pub loop-drawn-init : goal.loop-drawn-init
loop-drawn-init c = record {
  octets = c.new-octets.ensures ∙ sym (octets_drawn-none c.args.draws.now);
  len = ap length c.new-octets.ensures;
  state = sym (state_after-none c.args.draws.now);
}

pub loop-drawn-preserved : goal.loop-drawn-preserved
loop-drawn-preserved c =
    let i = c.loop-drawn._drawn in
    let now = c.loop-drawn.invariant.state in
    let octet : c.octet.result ≡ draw 0 (state_after i c.args.draws.now) % 256 = c.octet.ensures.value ∙ ap (λ s. draw 0 s % 256) now in
    record {
      octets =
          c.push.ensures.list
          ∙ ap₂ (λ (xs : List ℕ) (x : ℕ). xs ++ x ∷ []) c.loop-drawn.invariant.octets octet
          ∙ sym (octets_drawn-more i c.args.draws.now);
      len = c.push.ensures.len ∙ ap (λ n. n + 1) c.loop-drawn.invariant.len;
      state = c.octet.ensures.state ∙ ap (state_after 1) now ∙ state_after-add i 1 c.args.draws.now;
    }
