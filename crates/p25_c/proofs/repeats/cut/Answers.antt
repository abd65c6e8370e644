use Rattle.std.proofs.Common.{◌+◌, ◌-◌, ◌/◌, ◌%◌, ◌++◌, Bool, List, take, drop, ap, ◌∙◌, arith}
use Rattle.p25_bits.specs.{Bits.{part}, Numbers.{number_bits}}
use Rattle.p25_c.proofs.PlacesSteps.{cut-bits}
use Rattle.p25_c.proofs.repeats.cut.Goals as goal

pub returns : goal.returns
returns c =
    let octets = c.args.octets.now in
    let at = c.args.at in
    let count = c.args.count in
    let last = (at + count + 7) / 8 in
    let some = number_bits 8 (take (last - at / 8) (drop (at / 8) octets)) in
    c.append.ensures.list
    ∙ ap (λ (xs : List Bool). xs ++ part (at % 8) count c.put_numbers.new.self) c.clear.ensures
    ∙ ap (part (at % 8) count) (c.put_numbers.ensures.list ∙ ap (λ (xs : List Bool). xs ++ some) c.new-whole.ensures)
    ∙ cut-bits octets at count last (omega arith) (omega arith) (omega (arith, c.requires.there))
