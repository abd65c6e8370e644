use Rattle.std.proofs.{Common.{◌≡◌, ◌+◌, ◌-◌, ◌*◌, ◌/◌, ◌≤◌, ◌++◌, List, ℕ, length, take, drop, refl, ap, sym, ◌∙◌, arith, length-drop}, lemmas.List.{length-take-le, take_at}}
use Rattle.p25_bits.specs.Bits.{bits_of, octet_bits}
use Rattle.p25_c.specs.declared.stream.Stream.{Stream}
use Rattle.p25_c.proofs.StreamsSteps.{fits-of, let-go-bits, stream-of}
use Rattle.p25_c.proofs.stream.let_go.Goals as goal

pub returns-clause-same : goal.returns-clause-same
returns-clause-same c =
    let before = c.args.stream.now in
    let fits = fits-of before c.requires in
    let past = (before.from - before.begin) / 8 in
    let held = before.held in
    let front = c.copy_from_slice.new.self in
    let more = before.from - (before.begin + 8 * past) in
    let behind = bits_of (2 * before.dibits) before.waiting in
    let full : length before.octets ≡ 8168 = omega arith in
    let order : past ≤ held = omega (arith, fits.there, fits.order) in
    let there : held ≤ length before.octets = omega (arith, full, fits.few) in
    let some : held - past ≤ length (drop past before.octets) = omega (arith, length-drop past before.octets, there, order) in
    let long : length front ≡ held - past = ap length c.copy_from_slice.ensures.after ∙ length-take-le (held - past) (drop past before.octets) some in
    let back : 8 * past + more ≡ before.from - before.begin = omega (arith, fits.order) in
    let after : Stream = record before { begin = before.begin + 8 * past; held = held - past } in
    record {
      fits = stream-of after (record {
        few = omega (arith, fits.few);
        dibits = fits.dibits;
        waiting = fits.waiting;
        whole = omega (arith, fits.whole);
        order = omega (arith, fits.order);
        there = omega (arith, fits.there, fits.order);
        most = fits.most;
      });
      bits
          = ap (λ (zs : List ℕ). drop more (octet_bits zs ++ behind)) (take_at front _ (held - past) long)
          ∙ sym (let-go-bits before.octets front held past more behind order there c.copy_from_slice.ensures.after)
          ∙ ap (λ (k : ℕ). drop k (octet_bits (take held before.octets) ++ behind)) back;
      from = refl;
      ended = refl;
      dibits = refl;
    }
