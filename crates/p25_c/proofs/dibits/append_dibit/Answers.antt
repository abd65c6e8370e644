use Rattle.std.proofs.{Common.{◌≡◌, ◌+◌, ◌-◌, ◌*◌, ◌%◌, ◌/◌, ◌^◌, ◌<◌, ◌≤◌, ◌++◌, ℕ, length, drop, take, slice_set, refl, ap, subst, sym, ◌∙◌, arith}, Math.Pow.{pow_mono}}
use Rattle.p25_bits.specs.Bits.{bits_of, octet_bits}
use Rattle.p25_c.specs.declared.stream.Stream.{Stream}
use Rattle.p25_c.proofs.{DibitsSteps.{dibit-fits, octet-bits, waits-bits}, StreamsSteps.{fits-of, stream-of}}
use Rattle.p25_c.proofs.dibits.append_dibit.Goals as goal

pub returns-then-stream-lt3-clause-taken : goal.returns-then-stream-lt3-clause-taken
returns-then-stream-lt3-clause-taken c =
    let before = c.args.stream.now in
    let fits = fits-of before c.requires.fits in
    let dibit = c.args.dibit in
    let back = before.from - before.begin in
    let full : length before.octets ≡ 8168 = omega arith in
    let six : 2 * before.dibits ≤ 6 = omega (arith, c.if-stream-lt3.true) in
    let power : 2 ^ (2 * before.dibits) ≤ 64 = pow_mono six in
    let whole : before.waiting % 64 ≡ before.waiting = omega (arith, fits.waiting, power) in
    let after : Stream = record before { dibits = before.dibits + 1; waiting = 4 * (before.waiting % 64) + dibit % 4 } in
    record {
      fits = stream-of after (record {
        few = fits.few;
        dibits = omega arith;
        waiting = subst (λ (w : ℕ). 4 * w + dibit % 4 < 2 ^ (2 * (before.dibits + 1))) (sym whole) (dibit-fits before.dibits before.waiting dibit fits.waiting);
        whole = fits.whole;
        order = fits.order;
        there = fits.there;
        most = fits.most;
      });
      bits
          = ap (λ (w : ℕ). drop back (octet_bits (take before.held before.octets) ++ bits_of (2 * (before.dibits + 1)) (4 * w + dibit % 4))) whole
          ∙ waits-bits before.octets before.held back before.dibits before.waiting dibit (omega (arith, full, fits.few)) (omega (arith, fits.there, fits.order));
      from = refl;
      ended = refl;
    }

pub returns-clause-taken : goal.returns-clause-taken
returns-clause-taken c =
    let before = c.args.stream.now in
    let fits = fits-of before c.requires.fits in
    let dibit = c.args.dibit in
    let back = before.from - before.begin in
    let full : length before.octets ≡ 8168 = omega arith in
    let three : before.dibits ≡ 3 = omega (arith, fits.dibits) in
    let few : before.waiting < 64 = subst (λ (d : ℕ). before.waiting < 2 ^ (2 * d)) three fits.waiting in
    let whole : before.waiting % 64 ≡ before.waiting = omega (arith, few) in
    let room : before.held < 8168 = omega (arith, three, c.requires.room) in
    let after : Stream = record before { held = before.held + 1; dibits = 0; waiting = 0 } in
    record {
      fits = stream-of after (record {
        few = omega (arith, room);
        dibits = omega arith;
        waiting = omega arith;
        whole = fits.whole;
        order = fits.order;
        there = omega (arith, fits.there);
        most = fits.most;
      });
      bits
          = ap (λ (w : ℕ). drop back (octet_bits (take (before.held + 1) (slice_set before.octets before.held (4 * w + dibit % 4))) ++ bits_of 0 0)) whole
          ∙ octet-bits before.octets before.held back before.waiting dibit (omega (arith, full, room)) (omega (arith, fits.there, fits.order))
          ∙ ap (λ (d : ℕ). drop back (octet_bits (take before.held before.octets) ++ bits_of (2 * d) before.waiting) ++ bits_of 2 dibit) (sym three);
      from = refl;
      ended = refl;
    }
