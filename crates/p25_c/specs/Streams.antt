-- Streams: recordings that come in chunks.
use Rattle.std.specs.Prelude.{◌≡◌, ◌≢◌, ℕ, ℤ, pos, negsuc, ◌+◌, ◌-◌, ◌*◌, ◌/◌, ◌^◌, ◌==◌, ◌&&◌, not, min, nat_le, nat_lt, Bool, true, false, if◌then◌else◌, List, [], ◌∷◌, ◌++◌, length, take, drop, replicate, Option, Some, None}
use Rattle.p25_bits.specs.{Bits.{bits_of, octet_bits}, Numbers.{number_bits}}
use Rattle.p25_units.specs.{Items.{covered}, declared.item.Item.{Item}}
use Rattle.p25_c.specs.{Items.{is_inside, items_asked, parts_of}, Many.{numbers_of}, declared.items.ItemParts.{ItemParts}, declared.stream.Stream.{Stream}}

-- a stream that begins: it holds nothing
abbrev pub fresh_stream : Stream
fresh_stream = record { begin = 0; from = 0; held = 0; ended = 0; dibits = 0; waiting = 0; unused = 0; octets = replicate 8168 0 }

-- the numbers fit a stream: it holds no more octets than it has capacity for, at most three dibits wait, and the next item begins
-- within the octets held or at their end
abbrev pub is_stream : Stream → Bool
is_stream stream =
    nat_le stream.held 8168 && nat_le stream.dibits 3 && nat_lt stream.waiting (2 ^ (2 * stream.dibits)) && is_inside stream.begin stream.from stream.held

-- the octets that are held
abbrev pub octets_held : Stream → List ℕ
octets_held stream = take stream.held stream.octets

-- whether no more octets come
abbrev pub has_ended : Stream → Bool
has_ended stream = not (stream.ended == 0)

-- the bits from the first bit of the next item on: those of the octets held, and those of the dibits that wait
abbrev pub bits_left : Stream → List Bool
bits_left stream = drop (stream.from - stream.begin) (octet_bits (octets_held stream) ++ bits_of (2 * stream.dibits) stream.waiting)

-- the capacity once the octets are dropped before the one in which the next item begins
abbrev pub stream_room : Stream → ℕ
stream_room stream = 8168 - (stream.held - (stream.from - stream.begin) / 8)

-- the items that a stream has: those that it has decided, and all if it has ended; None if the numbers fit no stream
abbrev pub stream_asked : Stream → Option (List Item)
stream_asked stream = if is_stream stream then items_asked (has_ended stream) stream.begin stream.from (octets_held stream) else None

-- the numbers after a call: without the length of the text of the item if the buffer has no octets
abbrev pub item_told : ℕ → Option (List Item) → ItemParts → ItemParts
item_told room (Some (item ∷ items)) before = if room == 0 then numbers_of item else parts_of item
item_told room asked before = before

-- the stream after it: its next item begins at the end of that one
abbrev pub stream_moved : Option (List Item) → Stream → Stream
stream_moved (Some (item ∷ items)) stream = record stream { from = stream.from + covered item }
stream_moved asked stream = stream

-- -6: a stream has ended; -7: dibits wait for their octet
abbrev pub ended_already : ℤ
ended_already = negsuc 5

abbrev pub dibits_wait : ℤ
dibits_wait = negsuc 6

-- a stream took some bits after all others: the next item, and its position, stay the same
pub record HasTaken (more : List Bool) (before after : Stream) : Type 0 where
  pub fits : is_stream after ≡ true
  pub bits : bits_left after ≡ bits_left before ++ more
  pub from : after.from ≡ before.from
  pub ended : after.ended ≡ before.ended

-- octets were given to a stream: it took as many as it has capacity for, and the call returns how many; or it stays, and the number states
-- why
pub record IsPushed (octets : List ℕ) (before after : Stream) (answer : ℤ) : Type 0 where
  pub strange : is_stream before ≡ false → (answer ≡ negsuc 0) × (after ≡ before)
  pub ended : is_stream before ≡ true → before.ended ≢ 0 → (answer ≡ ended_already) × (after ≡ before)
  pub waiting : is_stream before ≡ true → before.ended ≡ 0 → before.dibits ≢ 0 → (answer ≡ dibits_wait) × (after ≡ before)
  pub taken : is_stream before ≡ true → before.ended ≡ 0 → before.dibits ≡ 0
      → (answer ≡ pos (min (length octets) (stream_room before)))
      × HasTaken (octet_bits (take (stream_room before) octets)) before after
      × (after.dibits ≡ 0)

-- dibits were given to a stream: it took as many as it has capacity for, and the call returns how many; or it stays, and the number states
-- why
pub record IsDibitsPushed (dibits : List ℕ) (before after : Stream) (answer : ℤ) : Type 0 where
  pub strange : is_stream before ≡ false → (answer ≡ negsuc 0) × (after ≡ before)
  pub ended : is_stream before ≡ true → before.ended ≢ 0 → (answer ≡ ended_already) × (after ≡ before)
  pub taken : is_stream before ≡ true → before.ended ≡ 0
      → (answer ≡ pos (min (length dibits) (4 * stream_room before))) × HasTaken (number_bits 2 (take (4 * stream_room before) dibits)) before after

-- a stream dropped octets that no item needs any more, or none
pub record HasSameBits (before after : Stream) : Type 0 where
  pub fits : is_stream after ≡ true
  pub bits : bits_left after ≡ bits_left before
  pub from : after.from ≡ before.from
  pub ended : after.ended ≡ before.ended
  pub dibits : after.dibits ≡ before.dibits

-- octets were written after those that are held, as many as there is capacity for
pub record IsAppended (octets : List ℕ) (before after : Stream) (answer : ℤ) : Type 0 where
  pub answer_is : answer ≡ pos (min (length octets) (8168 - before.held))
  pub stream_is : after
      ≡ record before {
        held = before.held + min (length octets) (8168 - before.held);
        octets =
            take before.held before.octets ++ take (8168 - before.held) octets
            ++ drop (before.held + min (length octets) (8168 - before.held)) before.octets;
      }
