use Rattle.std.proofs.{Common.{◌+◌, ◌-◌, ◌*◌, ◌/◌, ◌%◌, ◌^◌, ◌≤◌, ◌++◌, length, take, set, ap, sym, ◌∙◌, arith, length-set}, lemmas.List.{take_all}}
use Rattle.p25_bits.specs.Bits.{bits_of}
use Rattle.p25_bits.proofs.{BitsLaws.{digit_of-byte, length-bits_of}, WordsLaws.{take_written}, BitBufSteps.{length-held, take_appended, first_bit}}
use Rattle.p25_bits.proofs.bit_buf.BitBuf.push.Goals as goal

long : goal.invariant_of-self
long c =
    omega (arith, length-held, ap length c.self.view_is, c.requires)

pub invariant_of-self : goal.invariant_of-self
invariant_of-self c = long c

pub returns-clause-list : goal.returns-clause-list
returns-clause-list c =
    let inside = c.self.inside in
    let len = inside.len in
    let room = 64 - len % 64 in
    let word = bits_of 64 (c.from.result * 2 ^ 63 % 2 ^ 64) in
    let some : 1 ≤ room = omega arith in
    cc (
      take_appended c.args.self.now _ (take room word) len 1 room (sym (ap length c.self.view_is) ∙ length-held inside.words len (omega (arith, c.self.invariant)))
          ((take_written inside.words len room c.beginning.result (take room word) (omega (arith, long c)) (omega arith) (take_all (len % 64 + room) _ (omega (arith, length-bits_of 64 c.beginning.result)) ∙ c.beginning.ensures)) ∙ ap
          (λ bits. bits ++ take room word) c.self.view_is) some,
      first_bit c.args.bit c.from.result room (digit_of-byte c.from.result c.args.bit c.from.ensures) some,
    )

pub returns-clause-len : goal.returns-clause-len
returns-clause-len c =
    let inside = c.self.inside in
    omega (arith, length-held (set inside.words (inside.len / 64) c.beginning.result) (inside.len + 1) (omega (arith, long c, length-set inside.words)), length-held inside.words, ap length c.self.view_is)
