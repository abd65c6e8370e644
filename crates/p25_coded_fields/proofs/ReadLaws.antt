-- The decoder of fields: the symbols of one inner word, by whether it is correctable, and one more inner word in the loop.
use Rattle.std.proofs.Common.{◌≡◌, ℕ, ◌+◌, ◌-◌, ◌*◌, ◌/◌, ◌^◌, ◌<◌, ◌≤◌, Bool, true, false, List, [], ◌∷◌, length, take, map, replicate, get_or, bit_xor, Option, Some, None, option_map, refl, ap₂, sym, ◌∙◌, arith}
use Rattle.std.proofs.{lemmas.List.{append-nil, length-take-le, take_all, take_more}, lemmas.List.Concat.{flat_map-append}, lemmas.List.Elements.{All-replicate}, lemmas.Slice.{take-put_mid}}
use Rattle.std.specs.{List.{flat_map}, Int.RustNames.{count_ones}}
use borrow.Rule.Slice.PartMut.{put_mid}
use Rattle.p25_bits.specs.{Bits.{bits_of, field_of, part}, Distance.{distance_of}}
use Rattle.p25_bits.proofs.{BitsLaws.{length-bits_of, take-bits_of}, DistanceLaws.{distance_of-bits_of}, NumbersLaws.{bits_of-field}}
use Rattle.p25_code.specs.{Readings.{IsReadAs}, Words.{IsEncoding}, Erasures.{without_erased}}
use Rattle.p25_code.proofs.ErasedLaws.{without_erased-append, without_erased-list, without_erased-nil, without_erased-none}
use Rattle.p25_gf64.specs.declared.symbol.Sym.{Sym}
use Rattle.p25_link.specs.Symbols.{symbols_in}
use Rattle.p25_coded_fields.specs.Layouts.{Layout, symbols_or_erasures, received_in, outer_word_of}
use Rattle.p25_coded_fields.proofs.SymbolsLaws.{one_more, symbols_in-take}

-- a word that is decoded has the symbols of its information
pub symbols_or_erasures-some : (each : ℕ) (word : List Bool) → symbols_or_erasures each (Some word) ≡ map Some (symbols_in each word)
unfolding symbols_or_erasures
symbols_or_erasures-some each word = refl

-- and one that is not has erasures
pub symbols_or_erasures-none : (each : ℕ) → symbols_or_erasures each None ≡ replicate each None
unfolding symbols_or_erasures
symbols_or_erasures-none each = refl

-- the length of the first elements of a buffer
pub cut_long : {X : Type 0} (n : ℕ) (buffer xs : List X) → length xs ≡ length (take n buffer) → n ≤ length buffer → length xs ≡ n
cut_long n buffer xs same fits = same ∙ length-take-le n buffer fits

-- the information of a word, by the number that it writes
information_bits : (size k each value : ℕ) → 6 * each ≡ k → k ≤ size → bits_of (6 * each) (value / 2 ^ (size - k)) ≡ take k (bits_of size value)
information_bits size k each value sixes fits = rw sixes (sym (take-bits_of k size value fits))

-- a number that was received from a position has the bits at that position
pub received_bits : {n : ℕ} (size at number : ℕ) (bare : List Bool) → number ≡ field_of (part at n bare) → n ≡ size → at + size ≤ length bare → bits_of size number ≡ part at size bare
received_bits size at number bare is same there = rw (is, same) (bits_of-field size at bare there)

-- and its decoding is the decoding of these bits
pub received_reading : {answer given : Option ℕ} (size number : ℕ) (bits : List Bool) (reading : List Bool → Option (List Bool)) → answer ≡ given
    → option_map (bits_of size) answer ≡ reading (bits_of size number) → bits_of size number ≡ bits → option_map (bits_of size) given ≡ reading bits
received_reading size number bits reading is read taken = rw (← is, read, taken) refl

-- an inner word was decoded
pub inner_found : (size k each value : ℕ) (reading : Option (List Bool)) (symbols : List Sym) (erased : List Bool) → 6 * each ≡ k → k ≤ size → Some (bits_of size value) ≡ reading
    → symbols ≡ symbols_in each (bits_of (6 * each) (value / 2 ^ (size - k))) → erased ≡ replicate each false → without_erased symbols erased ≡ symbols_or_erasures each reading
inner_found size k each value reading symbols erased sixes fits some made none =
    let word = bits_of size value in
    rw (made, information_bits, symbols_in-take each k word (omega arith) (omega (arith, length-bits_of size value)), none, ← some, symbols_or_erasures-some)
    (without_erased-none (symbols_in each word) (replicate each false) (All-replicate (λ gone. gone ≡ false) each false refl))

-- no inner word was decoded
pub inner_beyond : (each : ℕ) (reading : Option (List Bool)) (symbols : List Sym) (erased : List Bool) → length symbols ≡ each → None ≡ reading → erased ≡ replicate each true
    → without_erased symbols erased ≡ symbols_or_erasures each reading
inner_beyond each reading symbols erased long none gone =
    rw (gone, ← none, symbols_or_erasures-none each) (without_erased-list symbols each long)

-- a decoded word is one of the set
pub read_word_of_set : {L : Type 0} (same : L → L → Bool) (IsWord : List L → Type 0) (radius : ℕ) (received word : List L) (answer : Option (List L))
    → IsReadAs same IsWord radius received answer → answer ≡ Some word → IsWord word
unfolding IsReadAs
read_word_of_set same IsWord radius received word answer is some = (rw some at is).word_of_set

-- the bit errors of an inner word: the bits that differ from the only word with its information
pub wrong_bits : {IsWord : List Bool → Type 0} (size k : ℕ) → ((v w : List Bool) → IsWord v → IsWord w → take k v ≡ take k w → v ≡ w)
    → (received value : ℕ) (info bits sent : List Bool) → IsEncoding IsWord k info (bits_of size value)
    → IsEncoding IsWord k info sent → bits_of size received ≡ bits → received < 2 ^ size → value < 2 ^ size → count_ones (bit_xor received value) ≡ distance_of bits sent
wrong_bits size k one_word received value info bits sent made is taken small_received small =
    rw (← taken, ← (one_word (bits_of size value) sent made.word_of_set is.word_of_set (made.begins ∙ sym is.begins))) (sym (distance_of-bits_of size received value small_received small))

-- before the first position
pub erased_before : {L : Type 0} (each : ℕ) (word : List L) (erased : List Bool) → without_erased (take (each * 0) word) (take (each * 0) erased) ≡ []
erased_before each word erased =
    let none : each * 0 ≡ 0 = omega arith in
    rw none (without_erased-nil [])

-- one more position
pub erased_next : {L : Type 0} (f : ℕ → List (Option L)) (places : List ℕ) (each i k at : ℕ) (word xs : List L) (erased es : List Bool) → i < length places → at ≡ get_or places i 0
    → each * i + each ≤ length word → length erased ≡ length word
    → length xs ≡ each → length es ≡ each → without_erased (take (each * i) word) (take (each * i) erased) ≡ flat_map f (take i places) → without_erased xs es ≡ f at
    → without_erased (take (each * (i + 1)) (put_mid (each * i) k word xs)) (take (each * (i + 1)) (put_mid (each * i) k erased es)) ≡ flat_map f (take (i + 1) places)
erased_next f places each i k at word xs erased es inside read there same long_x long_e before is =
    let fits_x : each * i ≤ length word = omega arith in
    let fits_e : each * i ≤ length erased = omega arith in
    rw (
      take-put_mid (each * i) k word xs (each * (i + 1)) (omega (arith, one_more each i)) fits_x,
      take-put_mid (each * i) k erased es (each * (i + 1)) (omega (arith, one_more each i)) fits_e,
      without_erased-append (take (each * i) word) xs (take (each * i) erased) es (length-take-le (each * i) word fits_x ∙ sym (length-take-le (each * i) erased fits_e)),
      before,
      is,
      read,
      take_more places i 0 inside,
      flat_map-append,
      append-nil (f (get_or places i 0)),
    ) refl

-- the outer word, from the symbols and erasures of all positions
pub outer_read : (layout : Layout) (bits : List Bool) (each i : ℕ) (word : List Sym) (erased : List Bool) (value : Option (List Sym))
    → each ≡ layout.each → i ≡ length layout.places → layout.each * length layout.places ≡ length word → length erased ≡ length word
    → without_erased (take (each * i) word) (take (each * i) erased) ≡ flat_map (λ at. symbols_or_erasures layout.each (layout.inner_reading (part at layout.size bits))) (take i layout.places)
    → value ≡ layout.outer_reading (without_erased word erased) → value ≡ outer_word_of layout bits
unfolding outer_word_of received_in
outer_read layout bits each i word erased value group here covers same is read =
    let all = ap₂ (λ m n. m * n) group here ∙ covers in
    rw (read, rw (take_all (each * i) word (omega arith), take_all (each * i) erased (omega arith), take_all i layout.places (omega arith)) at is) refl
