use Rattle.std.proofs.Common.{◌≡◌, ◌≢◌, ◌+◌, ◌-◌, ◌%◌, ◌^◌, ◌<◌, [], ◌∷◌, ◌++◌, List, length, replicate, refl, ap, sym, subst, ◌∙◌, arith, append_assoc, append-nil, length-append, ℤ, pos}
use Rattle.std.proofs.lemmas.List.{replicate-append-replicate}
use Rattle.p25_stream.specs.Scan.{Scan, given}
use Rattle.p25_recording_filters.specs.SoftLevels.{filled}
use Rattle.p25_recording_filters.proofs.hearing.fill.Goals as goal

pub loop-filled-init : goal.loop-filled-init
loop-filled-init c = record {
  list = sym (append-nil c.args.levels.now);
  len = omega arith;
  holding = λ ahead holding. holding;
  place = refl;
  going = c.requires.going;
  same = λ open_group. refl;
}

pub hear-requires-clause-drained : goal.hear-requires-clause-drained
hear-requires-clause-drained c = ap (λ (s : Scan). given s) (c.loop-filled.invariant.same c.loop-filled-test.true) ∙ c.requires.drained

pub hear-requires-clause-going : goal.hear-requires-clause-going
hear-requires-clause-going c = c.loop-filled.invariant.going

pub hear-requires-clause-few : goal.hear-requires-clause-few
hear-requires-clause-few c = subst (λ (s : Scan). s.place + length s.held < 2 ^ 60) (sym (c.loop-filled.invariant.same c.loop-filled-test.true)) c.requires.few

pub hear-requires-clause-room : goal.hear-requires-clause-room
hear-requires-clause-room c = omega (arith, c.loop-filled.invariant.len, c.requires.room, c.loop-filled-test.true, c.len.ensures)

pub loop-filled-preserved : goal.loop-filled-preserved
loop-filled-preserved c =
    let levels = c.args.levels.now in
    let i = c.loop-filled._filled in
    let inv = c.loop-filled.invariant in
    let count : length c.hear.new.levels ≡ length levels + (i + 1)
    = omega (arith, ap length c.hear.ensures.list, length-append c.loop-filled.levels (pos 32 ∷ []), inv.len) in
    record {
      list =
          c.hear.ensures.list
          ∙ ap (λ (ls : List ℤ). ls ++ pos 32 ∷ []) inv.list
          ∙ append_assoc levels (replicate i (pos 32)) (pos 32 ∷ [])
          ∙ ap (λ (ls : List ℤ). levels ++ ls) (replicate-append-replicate i 1 (pos 32));
      len = count;
      holding = λ ahead holding. c.hear.ensures.holding ahead (inv.holding ahead holding);
      place = c.hear.ensures.place ∙ inv.place;
      going = c.hear.ensures.going;
      same = λ more.
          let open_group : length c.hear.new.levels % 4 ≢ 0 = omega (arith, count, more, c.len.ensures) in
          c.hear.ensures.quiet open_group ∙ inv.same c.loop-filled-test.true;
    }

pub returns : goal.returns
unfolding filled
returns c = record {
  list =
      let levels = c.args.levels.now in
      let all : c.loop-filled._filled ≡ (4 - length levels % 4) % 4 = omega (arith, c.len.ensures) in
      c.loop-filled.invariant.list ∙ ap (λ n. levels ++ replicate n (pos 32)) all;
  full = omega (arith, c.loop-filled.invariant.len, c.len.ensures);
  few = omega (arith, c.loop-filled.invariant.len, c.len.ensures);
  holding = c.loop-filled.invariant.holding;
  place = c.loop-filled.invariant.place;
  going = c.loop-filled.invariant.going;
}
