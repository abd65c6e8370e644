-- The parts of step texts: the octets of flags, and one more serial number. By the lists made position by position.
use Rattle.std.proofs.Common.{◌≡◌, ℕ, ◌+◌, ◌/◌, Bool, true, false, cond, List, [], ◌∷◌, ◌++◌, length, take, map, decimal, slice_get, Some, refl, sym, ap, ap₂, ◌∙◌, arith, append-nil, append_assoc}
use Rattle.std.proofs.{lemmas.Bool.{cond-true, cond-false}, lemmas.List.{map_push, take_all, take-append-le}, lemmas.Option.{get_or_from_slice_get}}
use Rattle.std.specs.{Prelude.{slice_index_or, eqb, if◌then◌else◌}, List.{join_with_byte}}
use Rattle.p25_bits.specs.Numbers.{joined_below, octets_from}
use Rattle.p25_bits.proofs.NumbersLaws.{joined_below-more, length-numbers_from}
use Rattle.p25_packet_blocks.specs.FlagOctets.{flag_octets}
use Rattle.p25_line.specs.CommaLists.{comma_text}
use Rattle.p25_script.specs.StepTexts.{serial_at}
use Rattle.p25_line.proofs.CommaWriteLaws.{join-more}

-- the octets of flags are the first in a selective retry
pub flags-front : (flags : List Bool) → take (length flags / 8) (flag_octets flags) ≡ octets_from (length flags / 8) flags
unfolding flag_octets
flags-front flags =
    let count = length-numbers_from 8 (length flags / 8) flags in
    let rest : List ℕ = if eqb (length flags) 128 then 0 ∷ 0 ∷ 0 ∷ 0 ∷ [] else [] in
    take-append-le (length flags / 8) (octets_from (length flags / 8) flags) rest (omega (arith, count))
    ∙ take_all (length flags / 8) (octets_from (length flags / 8) flags) (omega (arith, count))

-- texts that are appended one after the other are appended as one
pub put-four : (out a b c d : List ℕ) → out ++ a ++ b ++ c ++ d ≡ out ++ (a ++ b ++ c ++ d)
put-four out a b c d = ap (λ l. l ++ c ++ d) (append_assoc out a b) ∙ ap (λ l. l ++ d) (append_assoc out (a ++ b) c) ∙ append_assoc out (a ++ b ++ c) d

pub put-six : (out a b c d e f : List ℕ) → out ++ a ++ b ++ c ++ d ++ e ++ f ≡ out ++ (a ++ b ++ c ++ d ++ e ++ f)
put-six out a b c d e f =
    ap (λ l. l ++ e ++ f) (put-four out a b c d) ∙ ap (λ l. l ++ f) (append_assoc out (a ++ b ++ c ++ d) e) ∙ append_assoc out (a ++ b ++ c ++ d ++ e) f

-- there is some number in a list
abbrev pub stands : List ℕ → Bool
stands [] = false
stands (number ∷ numbers) = true

stands-push : (numbers : List ℕ) (number : ℕ) → stands (numbers ++ number ∷ []) ≡ true
stands-push [] number = refl
stands-push (first ∷ numbers) number = refl

-- a list of numbers with one more
comma_text-push : (numbers : List ℕ) (number : ℕ) → comma_text decimal (numbers ++ number ∷ []) ≡ comma_text decimal numbers ++ (cond (stands numbers) (44 ∷ []) [] ++ decimal number)
unfolding comma_text
comma_text-push [] number = refl
comma_text-push (first ∷ numbers) number =
    ap (join_with_byte 44) (map_push decimal (first ∷ numbers) number) ∙ join-more 44 (map decimal (first ∷ numbers)) (decimal number) (omega arith)

-- the serial numbers, if the next flag is true and if it is false
serials-more : (flags : List Bool) (serial : ℕ) → slice_get flags serial ≡ Some true
    → joined_below (serial + 1) (serial_at flags) ≡ joined_below serial (serial_at flags) ++ serial ∷ []
serials-more flags serial read =
    joined_below-more serial (serial_at flags)
    ∙ ap (λ l. joined_below serial (serial_at flags) ++ l) (cond-true (slice_index_or flags serial false) (serial ∷ []) [] (get_or_from_slice_get flags serial true false read))

pub serials-same : (flags : List Bool) (serial : ℕ) → slice_get flags serial ≡ Some false
    → joined_below (serial + 1) (serial_at flags) ≡ joined_below serial (serial_at flags)
serials-same flags serial read =
    joined_below-more serial (serial_at flags)
    ∙ ap (λ l. joined_below serial (serial_at flags) ++ l) (cond-false (slice_index_or flags serial false) (serial ∷ []) [] (get_or_from_slice_get flags serial false false read))
    ∙ append-nil (joined_below serial (serial_at flags))

-- the text and whether there is some number in it, with one more
pub serial-text : (flags : List Bool) (serial : ℕ) (start out new : List ℕ) (behind : Bool) → slice_get flags serial ≡ Some true
    → out ≡ start ++ comma_text decimal (joined_below serial (serial_at flags)) → behind ≡ stands (joined_below serial (serial_at flags))
    → new ≡ out ++ cond behind (44 ∷ []) [] ++ decimal serial → new ≡ start ++ comma_text decimal (joined_below (serial + 1) (serial_at flags))
serial-text flags serial start out new behind read before some after =
    let serials = joined_below serial (serial_at flags) in
    after ∙ ap₂ (λ l b. l ++ cond b (44 ∷ []) [] ++ decimal serial) before some
    ∙ append_assoc (start ++ comma_text decimal serials) (cond (stands serials) (44 ∷ []) []) (decimal serial)
    ∙ append_assoc start (comma_text decimal serials) (cond (stands serials) (44 ∷ []) [] ++ decimal serial)
    ∙ ap (λ l. start ++ l) (sym (ap (comma_text decimal) (serials-more flags serial read) ∙ comma_text-push serials serial))

pub serial-stands : (flags : List Bool) (serial : ℕ) → slice_get flags serial ≡ Some true → true ≡ stands (joined_below (serial + 1) (serial_at flags))
serial-stands flags serial read = sym (ap stands (serials-more flags serial read) ∙ stands-push (joined_below serial (serial_at flags)) serial)

-- before the first flag there is none
pub serials-none : (flags : List Bool) → (comma_text decimal (joined_below 0 (serial_at flags)) ≡ []) × (stands (joined_below 0 (serial_at flags)) ≡ false)
unfolding comma_text joined_below
serials-none flags = (refl, refl)
