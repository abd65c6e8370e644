-- The items that a series of calls on a stream returns: those of all that was pushed, however it was cut.
use Rattle.std.specs.{Prelude.{◌≡◌, ℕ, true, false, Bool, List, [], ◌∷◌, ◌++◌, Option, Some}, List.{flat_map}}
use Rattle.p25_stream.specs.Items.{items_of}
use Rattle.p25_units.specs.declared.item.Item.{Item}
use Rattle.p25_c.specs.{Streams.{HasTaken, fresh_stream, has_ended, stream_asked, stream_moved}, declared.stream.Stream.{Stream}}

-- a call on a stream: it took some bits, those of octets or of dibits, or it returned an item
pub data StreamCall : Type 0 where
  Took : (bits : List Bool) → StreamCall
  Told : (item : Item) → StreamCall

-- the bits that calls took, and the items that they returned, in their order
abbrev pub bits_in : StreamCall → List Bool
bits_in (Took bits) = bits
bits_in (Told item) = []

abbrev pub items_in_call : StreamCall → List Item
items_in_call (Took bits) = []
items_in_call (Told item) = item ∷ []

abbrev pub bits_taken : List StreamCall → List Bool
bits_taken calls = flat_map bits_in calls

abbrev pub items_told : List StreamCall → List Item
items_told calls = flat_map items_in_call calls

-- a call leads from a stream to the next one: it took the bits before the stream had ended, or returned the first of the items that the
-- stream has, and moved on to its end
abbrev pub Leads : Stream → StreamCall → Stream → Type 0
Leads before (Took bits) after = (has_ended before ≡ false) × HasTaken bits before after
Leads before (Told item) after =
    (items : List Item) × (stream_asked before ≡ Some (item ∷ items)) × (after ≡ stream_moved (Some (item ∷ items)) before)

-- calls, one after the other
abbrev pub AreCalls : Stream → List StreamCall → Stream → Type 0
AreCalls first [] last = last ≡ first
AreCalls first (call ∷ calls) last = (next : Stream) × Leads first call next × AreCalls next calls last

-- the items that calls return of a stream from its beginning on are the first items of all that was pushed, whatever is pushed after it
abbrev pub StreamsTellTheFirst : Type 0
StreamsTellTheFirst =
    (calls : List StreamCall) (last : Stream) (more : List Bool) → AreCalls fresh_stream calls last
    → (rest : List Item) × (items_of 0 (bits_taken calls ++ more) ≡ items_told calls ++ rest)

-- if the stream then ends, with no dibit that waits, and calls return items until there is none, they return all of them
abbrev pub StreamsTellAll : Type 0
StreamsTellAll =
    (calls after : List StreamCall) (last end : Stream) → AreCalls fresh_stream calls last → last.dibits ≡ 0
    → AreCalls (record last { ended = 1 }) after end → stream_asked end ≡ Some []
    → items_of 0 (bits_taken calls) ≡ items_told (calls ++ after)
