-- The outer codeword of a field that is decoded from costs: with no erasure the one that differs in few symbols, since its cost is twice
-- their number; and else the first that is found.
use Rattle.std.proofs.Common.{◌≡◌, ℕ, zero, suc, ◌-◌, ◌*◌, ◌<◌, ◌≤◌, false, List, length, map, replicate, Option, Some, None, refl, ap, sym, ◌∙◌, arith}
use Rattle.std.proofs.lemmas.List.Elements.{All-replicate}
use Rattle.p25_bits.specs.{Distance.{distance_by}}
use Rattle.p25_bits.proofs.NumbersLaws.{length-joined_below}
use Rattle.p25_code.specs.Erasures.{without_erased, erased_cost}
use Rattle.p25_code.proofs.ErasedLaws.{erased_cost-letters, erased_read_as_sent, length-without_erased, without_erased-none}
use Rattle.p25_gf64.specs.declared.symbol.Sym.{Sym}
use Rattle.p25_link.proofs.SymbolsLaws.{length-symbols_in}
use Rattle.p25_reed_solomon.specs.{Words.{IsCode, IsWord, same_symbols}, RsReadings.{erasures_within_of, rs_erased_reading_of, rs_erased_reads_as}}
use Rattle.p25_coded_fields.specs.Decided.{InnerWords, first_found, read_erasing, symbols_decided, symbols_or, symbols_read, word_decided}
use Rattle.p25_coded_fields.proofs.{CodesLaws.{rs_is_code}, DecidedLaws.{decided_whole, first_at, first_next, first_none}}

pub length-symbols_read : (words : InnerWords) (costs : List ℕ) → length (symbols_read words costs) ≡ words.each * words.count
unfolding symbols_read
length-symbols_read words costs = length-joined_below words.each words.count _ (λ i less. length-symbols_in words.each _)

-- the outer codeword of which few symbols differ
pub outer-near : (words : InnerWords) (n k most : ℕ) (costs : List ℕ) (sent : List Sym) → IsCode n k → words.each * words.count ≡ n → IsWord n k sent
    → 2 * distance_by same_symbols (symbols_read words costs) sent ≤ n - k → word_decided words (rs_erased_reading_of n k) most costs ≡ Some sent
outer-near words n k most costs sent code whole is near =
    let read = symbols_read words costs in
    let marks = replicate (length read) false in
    let list = without_erased read marks in
    let long : length read ≡ n = length-symbols_read words costs ∙ whole in
    let letters : list ≡ map Some read = without_erased-none read marks (All-replicate (λ gone. gone ≡ false) (length read) false refl) in
    let cost : erased_cost same_symbols list sent ≤ n - k = rw (letters, erased_cost-letters same_symbols read sent) near in
    let found : rs_erased_reading_of n k list ≡ Some sent
    = erased_read_as_sent (rs_is_code n k code) (erasures_within_of n k) list sent (rs_erased_reading_of n k list) (length-without_erased read marks ∙ long) (rs_erased_reads_as n k list) is cost in
    sym (decided_whole (rs_erased_reading_of n k) words costs most read (Some sent) refl (whole ∙ sym long) (sym found) refl)

-- nothing is found if no decoding finds anything
none_found : {X : Type 0} (n : ℕ) (reading : ℕ → Option X) → ((v : ℕ) → v < n → reading v ≡ None) → first_found n reading ≡ None
none_found zero reading none = first_none reading
none_found (suc n) reading none = first_next n reading (none_found n reading (λ v less. none v (omega arith))) ∙ none n (omega arith)

-- the first that is found
pub outer-first : (words : InnerWords) (outer : List (Option Sym) → Option (List Sym)) (most u : ℕ) (costs : List ℕ) (word : List Sym) → u ≤ most
    → ((v : ℕ) → v < u → read_erasing words outer costs v ≡ None) → read_erasing words outer costs u ≡ Some word → word_decided words outer most costs ≡ Some word
unfolding word_decided
outer-first words outer most u costs word few none found =
    sym (first_at u most (read_erasing words outer costs) word few (none_found u (read_erasing words outer costs) none) (sym found))

-- and the symbols of the inner codewords if none does
pub outer-none : (words : InnerWords) (outer : List (Option Sym) → Option (List Sym)) (most : ℕ) (costs : List ℕ)
    → ((v : ℕ) → v ≤ most → read_erasing words outer costs v ≡ None) → symbols_decided words outer most costs ≡ symbols_read words costs
unfolding symbols_decided word_decided
outer-none words outer most costs none =
    ap (symbols_or (symbols_read words costs)) (none_found (suc most) (read_erasing words outer costs) (λ v less. none v (omega arith)))
