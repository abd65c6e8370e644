use Rattle.std.proofs.Common.{◌≡◌, ◌*◌, true, length, sym, subst, ◌∙◌, arith}
use Rattle.std.specs.List.{list_all}
use Rattle.p25_line.specs.Values.{AllOctets, is_lower_digit}
use Rattle.p25_line.proofs.{HexLaws.{octets_of-facts}, ValuesSteps.{other-length, other-digits, decode_sized-word}}
use Rattle.p25_line.proofs.values.hex_value.Goals.{then-word-out-via-then-word-out, then-word-out-via-else-word-out+then-not-is_lower_hex}
use Rattle.p25_line.proofs.values.hex_value.Goals as goal

pub returns-then-word-out-clause-refused : goal.returns-then-word-out-clause-refused
returns-then-word-out-clause-refused c octets same fits text =
    elim c.then-word-out.branch [
      | then-word-out-via-then-word-out w ↦ other-length c.args.word.now octets (length c.args.out.now) w.if-word-out.true same text
      | then-word-out-via-else-word-out+then-not-is_lower_hex w ↦ other-digits c.args.word.now octets (sym w.is_lower_hex.ensures ∙ w.if-not-is_lower_hex.true) fits text
    ]

pub returns-clause-value : goal.returns-clause-value
returns-clause-value c =
    let word = c.args.word.now in
    let n = length c.args.out.now in
    let even : length word ≡ 2 * n = omega arith in
    let digits : list_all is_lower_digit word ≡ true = sym c.is_lower_hex.ensures ∙ c.if-not-is_lower_hex.false in
    let decoded = rw (decode_sized-word word n even digits) at c.decode_to_slice.ensures.value in
    rw decoded.1 (octets_of-facts n word even digits).0

pub returns-clause-octets : goal.returns-clause-octets
returns-clause-octets c =
    let word = c.args.word.now in
    let n = length c.args.out.now in
    let even : length word ≡ 2 * n = omega arith in
    let digits : list_all is_lower_digit word ≡ true = sym c.is_lower_hex.ensures ∙ c.if-not-is_lower_hex.false in
    let decoded = rw (decode_sized-word word n even digits) at c.decode_to_slice.ensures.value in
    subst AllOctets (sym decoded.1) (octets_of-facts n word even digits).1
