use Rattle.std.proofs.Common.{rules, ◌≡◌, ◌≢◌, ◌+◌, ◌%◌, ◌^◌, ◌<◌, [], ◌∷◌, ◌++◌, List, length, map, take, get_or, refl, ap, sym, subst, ◌∙◌, arith, append_assoc, append-nil, length-append, ℤ, FitsSigned, to_z, of_z, w8}
use Rattle.std.proofs.lemmas.{Int.{to_z-of_z}, List.{map-append, take_more}}
use Rattle.p25_stream.specs.Scan.{Scan, given}
use Rattle.p25_recording_filters.specs.SoftLevels.{octet_level}
use Rattle.p25_recording_filters.proofs.hearing.hear_some.Goals as goal

pub loop-i-init : goal.loop-i-init
loop-i-init c = record {
  list = sym (append-nil c.args.levels.now);
  len = omega arith;
  holding = λ ahead holding. holding;
  place = refl;
  going = c.requires.going;
  same = λ open_group. refl;
}

pub hear-requires-clause-drained : goal.hear-requires-clause-drained
hear-requires-clause-drained c = ap (λ (s : Scan). given s) (c.loop-i.invariant.same c.loop-i-test.true) ∙ c.requires.drained

pub hear-requires-clause-few : goal.hear-requires-clause-few
hear-requires-clause-few c = subst (λ (s : Scan). s.place + length s.held < 2 ^ 60) (sym (c.loop-i.invariant.same c.loop-i-test.true)) c.requires.few

pub hear-requires-clause-room : goal.hear-requires-clause-room
hear-requires-clause-room c = omega (arith, c.loop-i.invariant.len, c.requires.room, c.loop-i-test.true, c.len.ensures)

pub loop-i-preserved : goal.loop-i-preserved
unfolding octet_level
loop-i-preserved c =
    let levels = c.args.levels.now in
    let octets = c.args.octets.now in
    let i = c.loop-i.i in
    let inv = c.loop-i.invariant in
    let level = to_z w8 (of_z w8 c.cast_signed.result) in
    let fits : FitsSigned w8 c.cast_signed.result = search rules in
    let is : level ≡ octet_level (get_or octets i 0) = to_z-of_z w8 c.cast_signed.result fits ∙ c.cast_signed.ensures in
    let inside : i < length octets = omega (arith, c.loop-i-test.true) in
    let more : map octet_level (take (i + 1) octets) ≡ map octet_level (take i octets) ++ level ∷ []
    = ap (map octet_level) (take_more octets i 0 inside) ∙ map-append octet_level (take i octets) (get_or octets i 0 ∷ [])
    ∙ ap (λ (l : ℤ). map octet_level (take i octets) ++ l ∷ []) (sym is) in
    let count : length c.hear.new.levels ≡ length levels + (i + 1)
    = omega (arith, ap length c.hear.ensures.list, length-append c.loop-i.levels (level ∷ []), inv.len) in
    record {
      list =
          c.hear.ensures.list
          ∙ ap (λ (ls : List ℤ). ls ++ level ∷ []) inv.list
          ∙ append_assoc levels (map octet_level (take i octets)) (level ∷ [])
          ∙ ap (λ (ls : List ℤ). levels ++ ls) (sym more);
      len = count;
      holding = λ ahead holding. c.hear.ensures.holding ahead (inv.holding ahead holding);
      place = c.hear.ensures.place ∙ inv.place;
      going = c.hear.ensures.going;
      same = λ further.
          let open_group : length c.hear.new.levels % 4 ≢ 0 = omega (arith, count, further, c.len.ensures) in
          c.hear.ensures.quiet open_group ∙ inv.same c.loop-i-test.true;
    }
