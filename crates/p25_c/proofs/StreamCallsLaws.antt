-- The items that a series of calls on a stream returns, by induction on the calls: the bits that are left have the items that were not returned.
use Rattle.std.proofs.Common.{◌≡◌, ℕ, ◌+◌, ◌-◌, ◌*◌, ◌<◌, ◌≤◌, inl, inr, Bool, true, false, List, [], ◌∷◌, ◌++◌, length, drop, Option, Some, None, refl, ap, ap₂, sym, ◌∙◌, arith, append_assoc, append-nil}
use Rattle.std.proofs.{lemmas.Bool.{cases_Bool, cond-false, cond-true}, lemmas.List.{drop-append-le, drop-drop}, lemmas.List.Concat.{flat_map-append}}
use Rattle.std.specs.List.{flat_map}
use Rattle.p25_bits.specs.Bits.{bits_of, octet_bits}
use Rattle.p25_bits.proofs.BitsLaws.{bits_of-zero, length-octet_bits, octet_bits-nil}
use Rattle.p25_stream.specs.Items.{items_by, items_of}
use Rattle.p25_units.specs.{Items.{covered}, declared.item.Item.{Item}}
use Rattle.p25_c.specs.{Items.{items_asked}, StreamCalls.{AreCalls, Leads, StreamCall, StreamsTellAll, StreamsTellTheFirst, Told, Took, bits_in, bits_taken, items_in_call, items_told}}
use Rattle.p25_c.specs.{Streams.{bits_left, fresh_stream, has_ended, is_stream, octets_held, stream_asked, stream_moved}, declared.stream.Stream.{Stream}}
use Rattle.p25_c.proofs.{CallsLaws.{inside-bounds, told-first}, ItemsLaws.{items_asked-some}}

-- the numbers fit a stream if it has items or none
pub stream-asked : (stream : Stream) (items : List Item) → stream_asked stream ≡ Some items
    → (is_stream stream ≡ true) × (items_asked (has_ended stream) stream.begin stream.from (octets_held stream) ≡ Some items)
stream-asked stream items asked =
    let told = items_asked (has_ended stream) stream.begin stream.from (octets_held stream) in
    elim (cases_Bool (is_stream stream)) [
      | inl yes' ↦ (yes', sym (cond-true (is_stream stream) told None yes') ∙ asked)
      | inr no' ↦ let two = sym (cond-false (is_stream stream) told None no') ∙ asked in absurd (cc two)
    ]

-- the items of the bits that are left and of some more
abbrev items_left : Stream → List Bool → List Item
items_left stream more = items_by true stream.from (bits_left stream ++ more)

-- the bits of the dibits that wait
abbrev bits_waiting : Stream → List Bool
bits_waiting stream = bits_of (2 * stream.dibits) stream.waiting

-- the bits of the octets held from the next item on
abbrev bits_here : Stream → List Bool
bits_here stream = drop (stream.from - stream.begin) (octet_bits (octets_held stream))

left-parts : (stream : Stream) → stream.from ≤ stream.begin + 8 * length (octets_held stream) → bits_left stream ≡ bits_here stream ++ bits_waiting stream
left-parts stream there =
    drop-append-le (stream.from - stream.begin) (octet_bits (octets_held stream)) (bits_waiting stream) (omega (arith, there, length-octet_bits (octets_held stream)))

-- an item that is returned is the first of those that are left
told-next : (stream : Stream) (item : Item) (items : List Item) (more : List Bool) → stream_asked stream ≡ Some (item ∷ items)
    → (has_ended stream ≡ true → bits_waiting stream ++ more ≡ [])
    → items_left stream more ≡ item ∷ items_left (stream_moved (Some (item ∷ items)) stream) more
told-next stream item items more asked goes =
    let from = stream.from in
    let count = covered item in
    let here = bits_here stream in
    let waiting = bits_waiting stream in
    let next = stream_moved (Some (item ∷ items)) stream in
    let some = items_asked-some (has_ended stream) stream.begin from (octets_held stream) (item ∷ items) (stream-asked stream (item ∷ items) asked).1 in
    let bounds = inside-bounds stream.begin from (length (octets_held stream)) some.0 in
    let first = told-first (has_ended stream) from here (waiting ++ more) item items some.1 goes in
    let joined : bits_left stream ≡ here ++ waiting = left-parts stream bounds.1 in
    let later : bits_left next ≡ drop count here ++ waiting
    = ap (λ (k : ℕ). drop k (octet_bits (octets_held stream) ++ waiting)) (moved-far stream.begin from count bounds.0)
    ∙ sym (drop-drop count (from - stream.begin) (octet_bits (octets_held stream) ++ waiting))
    ∙ ap (drop count) joined
    ∙ drop-append-le count here waiting first.0 in
    ap (λ (bits : List Bool). items_by true from (bits ++ more)) joined
    ∙ ap (items_by true from) (append_assoc here waiting more)
    ∙ first.1
    ∙ ap (λ (bits : List Bool). item ∷ items_by true (from + count) bits) (sym (append_assoc (drop count here) waiting more))
    ∙ ap (λ (bits : List Bool). item ∷ items_by true (from + count) (bits ++ more)) (sym later)
  where
    moved-far : (begin from count : ℕ) → begin ≤ from → from + count - begin ≡ from - begin + count
    moved-far begin from count order = omega (arith, order)

-- before the end: the items that are returned, and the bits that are left of all that were taken, whatever is taken then
told-going : (calls : List StreamCall) (first last : Stream) (more : List Bool) → has_ended first ≡ false → AreCalls first calls last
    → items_left first (bits_taken calls ++ more) ≡ items_told calls ++ items_left last more
told-going [] first last more going are = ap (λ (s : Stream). items_left s more) (sym are)
told-going (Took bits ∷ calls) first last more going are =
    let next = are.0 in
    let took = are.1.1 in
    let still : has_ended next ≡ false = ap (λ (n : ℕ). has_ended (record first { ended = n })) took.ended ∙ going in
    ap (λ (xs : List Bool). items_left first xs) (append_assoc bits (bits_taken calls) more)
    ∙ ap (items_by true first.from) (sym (append_assoc (bits_left first) bits (bits_taken calls ++ more)))
    ∙ ap₂ (λ (n : ℕ) (xs : List Bool). items_by true n (xs ++ (bits_taken calls ++ more))) (sym took.from) (sym took.bits)
    ∙ told-going calls next last more still are.2
told-going (Told item ∷ calls) first last more going are =
    let next = are.0 in
    let told = are.1 in
    let still : has_ended next ≡ false = ap has_ended told.2 ∙ going in
    told-next first item told.0 (bits_taken calls ++ more) told.1 (λ ended. let two : false ≡ true = sym going ∙ ended in absurd (cc two))
    ∙ ap (λ (s : Stream). item ∷ items_left s (bits_taken calls ++ more)) (sym told.2)
    ∙ ap (λ (xs : List Item). item ∷ xs) (told-going calls next last more still are.2)

-- after the end: no bit is taken, and if no dibit waits all items that are left are returned
told-ended : (calls : List StreamCall) (first last : Stream) → has_ended first ≡ true → first.dibits ≡ 0 → AreCalls first calls last → stream_asked last ≡ Some []
    → items_left first [] ≡ items_told calls
told-ended [] first last ended none are asked =
    let told : stream_asked first ≡ Some [] = ap stream_asked (sym are) ∙ asked in
    let some = items_asked-some (has_ended first) first.begin first.from (octets_held first) [] (stream-asked first [] told).1 in
    let bounds = inside-bounds first.begin first.from (length (octets_held first)) some.0 in
    ap (λ (bits : List Bool). items_by true first.from (bits ++ [])) (left-parts first bounds.1)
    ∙ ap (λ (bits : List Bool). items_by true first.from ((bits_here first ++ bits) ++ [])) (waits-none first none)
    ∙ ap (items_by true first.from) (append-nil (bits_here first ++ []) ∙ append-nil (bits_here first))
    ∙ ap (λ (b : Bool). items_by b first.from (bits_here first)) (sym ended)
    ∙ some.1
  where
    waits-none : (stream : Stream) → stream.dibits ≡ 0 → bits_waiting stream ≡ []
    waits-none stream none = ap (λ (n : ℕ). bits_of (2 * n) stream.waiting) none ∙ bits_of-zero stream.waiting
told-ended (Took bits ∷ calls) first last ended none are asked = let two : false ≡ true = sym are.1.0 ∙ ended in absurd (cc two)
told-ended (Told item ∷ calls) first last ended none are asked =
    let told = are.1 in
    let waits : bits_waiting first ++ [] ≡ [] = append-nil (bits_waiting first) ∙ ap (λ (n : ℕ). bits_of (2 * n) first.waiting) none ∙ bits_of-zero first.waiting in
    told-next first item told.0 [] told.1 (λ e. waits)
    ∙ ap (λ (s : Stream). item ∷ items_left s []) (sym told.2)
    ∙ ap (λ (xs : List Item). item ∷ xs)
    (told-ended calls are.0 last (ap has_ended told.2 ∙ ended) (ap (λ (s : Stream). s.dibits) told.2 ∙ none) are.2 asked)

-- a stream that begins has nothing left
fresh-left : (more : List Bool) → items_left fresh_stream more ≡ items_of 0 more
fresh-left more = ap (λ (bits : List Bool). items_by true 0 ((bits ++ bits_of 0 0) ++ more)) octet_bits-nil ∙ ap (λ (bits : List Bool). items_by true 0 (bits ++ more)) (bits_of-zero 0)

pub streams-first : StreamsTellTheFirst
streams-first calls last more are = (items_left last more, sym (fresh-left (bits_taken calls ++ more)) ∙ told-going calls fresh_stream last more refl are)

pub streams-all : StreamsTellAll
streams-all calls after last end are none behind asked =
    ap (items_of 0) (sym (append-nil (bits_taken calls)))
    ∙ sym (fresh-left (bits_taken calls ++ []))
    ∙ told-going calls fresh_stream last [] refl are
    ∙ ap (λ (xs : List Item). items_told calls ++ xs) (told-ended after (record last { ended = 1 }) end refl none behind asked)
    ∙ sym (flat_map-append items_in_call calls after)
