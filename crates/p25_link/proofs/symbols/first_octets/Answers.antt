use Rattle.std.proofs.{Common.{◌≡◌, ◌*◌, ◌≤◌, length, take, drop, rules, sym, ap, ◌∙◌, arith}, lemmas.List.{length-take-le, take-append-drop, take_all}}
use Rattle.p25_bits.specs.{Bits.{bits_of}, Numbers.{octets_from}}
use Rattle.p25_bits.proofs.NumbersLaws.{numbers_from-append, numbers_from-zero}
use Rattle.p25_link.specs.Symbols.{symbol_bits}
use Rattle.p25_link.proofs.{SymbolsLaws.{length-symbol_bits}, SymbolNumbersLaws.{octet_set, symbol_bits-append, symbols_bits}}
use Rattle.p25_link.proofs.symbols.first_octets.Goals as goal

pub loop-i-init : goal.loop-i-init
loop-i-init c = record { so_far = sym (numbers_from-zero 8 (bits_of 72 c.symbols_number-number.result)); nine = search rules }

pub loop-i-preserved : goal.loop-i-preserved
loop-i-preserved c = record {
  so_far = octet_set c.loop-i.octets c.loop-i.i 72 c.symbols_number-number.result (omega (arith, c.loop-i.invariant.nine)) (omega arith) c.loop-i.invariant.so_far;
  nine = search rules;
}

pub returns-clause-list : goal.returns-clause-list
returns-clause-list c =
    let symbols = c.args.symbols.now in
    let number = c.symbols_number-number.result in
    let front = symbol_bits (take 12 symbols) in
    let long : length (take 12 symbols) ≡ 12 = length-take-le 12 symbols c.requires in
    let there : 8 * 9 ≤ length front = omega (arith, long, length-symbol_bits (take 12 symbols)) in
    let all : take c.loop-i.i c.loop-i.octets ≡ c.loop-i.octets = take_all c.loop-i.i c.loop-i.octets (omega (arith, c.loop-i.invariant.nine)) in
    let nine : c.loop-i.i ≡ 9 = omega arith in
    sym all ∙ c.loop-i.invariant.so_far ∙ ap (λ n. octets_from n (bits_of 72 number)) nine
    ∙ ap (octets_from 9) (symbols_bits (take 12 symbols) 12 number long c.symbols_number-number.ensures.value)
    ∙ sym (numbers_from-append 8 9 front (symbol_bits (drop 12 symbols)) there)
    ∙ ap (octets_from 9) (sym (symbol_bits-append (take 12 symbols) (drop 12 symbols)) ∙ ap symbol_bits (take-append-drop 12 symbols))
