-- What a follower writes of a recording, by induction on its items: what is kept as numbers and octets says what was kept.
use Rattle.std.proofs.Common.{◌≡◌, ℕ, ◌+◌, ◌-◌, ◌*◌, ◌/◌, ◌%◌, ◌<◌, ◌≤◌, Bool, true, if◌then◌else◌, List, [], ◌∷◌, ◌++◌, length, take, drop, replicate, Option, Some, None, Ok, refl, ap, ap₂, sym, subst, ◌∙◌, arith, append_assoc, length-append}
use Rattle.std.proofs.{lemmas.Bool.{cond-true, le-leb, leb-true}, lemmas.List.{length-replicate, take_all, take_at}}
use Rattle.std.specs.Cmp.{first_so, second_so}
use Rattle.p25_bits.specs.{Bits.{bits_of, field_of, octet_bits, part}, Numbers.{number_bits, octets_from}}
use Rattle.p25_bits.proofs.BitsLaws.{bits_of-field_of, bits_of-zero, length-bits_of, length-octet_bits, octet_bits-append}
use Rattle.p25_bits.proofs.{NumbersLaws.{length-numbers_from, number_bits-numbers_from, number_bits-octets}, PartLaws.{drop_behind, part_left}}
use Rattle.p25_follow.specs.{Followed.{follow_of, followed_by}, Following.{IsFollow, behind_item, follow, fresh_follow, written_before, written_item}}
use Rattle.p25_follow.proofs.FollowingLaws.{IsFollow-behind}
use Rattle.p25_recording_filters.specs.{Commands.{FollowedParts, followed_reporting}, Reports.{reported}}
use Rattle.p25_recording_filters.proofs.ReportsLaws.{reported-cons, reported-followed, reported-nil}
use Rattle.p25_stream.specs.Items.{items_of}
use Rattle.p25_units.specs.{Items.{covered, place_of}, Units.{whole_octets}, declared.item.Item.{Item}, declared.item.Item.TheVariants.{Whole, Broken, NoUnit, Gap, Cut}}
use Rattle.p25_c.specs.{Calls.{Given, IsPiece}, FollowerLaws.{FollowersFollow, FollowersFollowFrom, ItemsAreCut, followed_series}}
use Rattle.p25_c.specs.{Followers.{follower_told, fresh_follower, has_name, item_held, name_duid, name_nac, parts_held}, Items.{is_inside, parts_of}, Places.{filled, has_item}}
use Rattle.p25_c.specs.{Rooms.{write_left, written}, Values.{is_set}, declared.followers.FollowerState.{FollowerState}}
use Rattle.p25_c.proofs.RelaysSteps.{placed-of}

-- ---- what is kept comes back

name-back : (before : Option (ℕ × ℕ)) → (if is_set (has_name before) then Some (name_nac before, name_duid before) else None) ≡ before
name-back None = refl
name-back (Some name) = refl

stretch-back : (stretch : List Bool) → length stretch < 6912 → take (length stretch) (octet_bits (write_left (Ok (whole_octets (filled stretch))) (replicate 864 0))) ≡ stretch
stretch-back stretch few =
    let zeros = bits_of ((8 - length stretch % 8) % 8) 0 in
    let all = stretch ++ zeros in
    let n = length all / 8 in
    let octets : List ℕ = octets_from n all in
    let nothing : ℕ = 0 in
    let room : List ℕ = replicate 864 nothing in
    let rest = drop (length octets) room in
    let long : length all ≡ length stretch + (8 - length stretch % 8) % 8 = length-append stretch zeros ∙ ap (λ (k : ℕ). length stretch + k) (length-bits_of ((8 - length stretch % 8) % 8) 0) in
    let whole : 8 * n ≡ length all = omega (arith, long) in
    let count : length octets ≡ n = length-numbers_from 8 n all in
    let size : length room ≡ 864 = length-replicate 864 nothing in
    let fits : length octets ≤ length room = omega (arith, count, long, few, size) in
    let bits : octet_bits octets ≡ all = sym (number_bits-octets octets) ∙ number_bits-numbers_from 8 n all (omega (arith, whole)) ∙ take_all (8 * n) all (omega (arith, whole)) in
    ap (λ (xs : List ℕ). take (length stretch) (octet_bits xs)) (cond-true _ (written octets room) room (le-leb (length octets) (length room) fits))
    ∙ ap (take (length stretch)) (octet_bits-append octets rest ∙ ap (λ (zs : List Bool). zs ++ octet_bits rest) bits ∙ append_assoc stretch zeros (octet_bits rest))
    ∙ take_at stretch (zeros ++ octet_bits rest) (length stretch) refl

abbrev made : Option (ℕ × ℕ) → List Bool → List Bool → FollowedParts
made before stretch kept = record { follower = follow before stretch; kept = kept }

told-back : (reached : ℕ) (parts : FollowedParts) → length parts.follower.stretch < 6912 → parts_held (follower_told reached parts) ≡ parts
told-back reached parts few =
    ap₂ (λ (before : Option (ℕ × ℕ)) (stretch : List Bool). made before stretch (bits_of (length parts.kept) (field_of parts.kept)))
    (name-back parts.follower.before) (stretch-back parts.follower.stretch few)
    ∙ ap (made parts.follower.before parts.follower.stretch) (bits_of-field_of parts.kept)

-- ---- items by their numbers

piece-told : (parts : FollowedParts) (item : Item) (raw : List Bool) → followed_reporting.piece parts (item_held (parts_of item)) raw ≡ followed_reporting.piece parts item raw
unfolding written_before written_item
piece-told parts (Whole place frame fixes) raw = refl
piece-told parts item raw = refl

behind-told : (parts : FollowedParts) (item : Item) (raw : List Bool) → followed_reporting.behind parts (item_held (parts_of item)) raw ≡ followed_reporting.behind parts item raw
unfolding written_before written_item behind_item
behind-told parts (Whole place frame fixes) raw = refl
behind-told parts item raw = refl

-- ---- a series

series-nil : (state : FollowerState) (bits : List Bool) → followed_series state [] bits ≡ followed_reporting.closing (parts_held state)
unfolding followed_series
series-nil state bits = refl

series-cons : (state : FollowerState) (item : Item) (items : List Item) (bits : List Bool)
    → followed_series state (item ∷ items) bits
    ≡ followed_reporting.piece (parts_held state) (item_held (parts_of item)) (take (covered item) bits)
    ++ followed_series (follower_told (place_of item + covered item)
    (followed_reporting.behind (parts_held state) (item_held (parts_of item)) (take (covered item) bits))) items (drop (covered item) bits)
unfolding followed_series
series-cons state item items bits = refl

series-reported : (items : List Item) (bits : List Bool) (state : FollowerState) (parts : FollowedParts)
    → parts_held state ≡ parts → followed_series state items bits ≡ reported followed_reporting true parts items bits
series-reported [] bits state parts is = series-nil state bits ∙ ap (λ (p : FollowedParts). followed_reporting.closing p) is ∙ sym (reported-nil followed_reporting true parts bits)
series-reported (item ∷ items) bits state parts is =
    let raw = take (covered item) bits in
    let rest = drop (covered item) bits in
    let next = followed_reporting.behind parts item raw in
    let reached = place_of item + covered item in
    let piece = ap (λ (p : FollowedParts). followed_reporting.piece p (item_held (parts_of item)) raw) is ∙ piece-told parts item raw in
    let behind = ap (λ (p : FollowedParts). followed_reporting.behind p (item_held (parts_of item)) raw) is ∙ behind-told parts item raw in
    let few : length next.follower.stretch < 6912 = (IsFollow-behind parts.follower item raw).few in
    series-cons state item items bits
    ∙ ap₂ (λ (xs : List ℕ) (p : FollowedParts). xs ++ followed_series (follower_told reached p) items rest) piece behind
    ∙ ap (λ (xs : List ℕ). followed_reporting.piece parts item raw ++ xs) (series-reported items rest (follower_told reached next) next (told-back reached next few))
    ∙ sym (reported-cons followed_reporting true parts item items bits)

pub followers-follow : FollowersFollow
unfolding follow_of
followers-follow octets =
    let bits = octet_bits octets in
    let items = items_of 0 bits in
    let begins : parts_held fresh_follower ≡ record { follower = fresh_follow; kept = [] }
    = ap (λ (kept : List Bool). record { follower = fresh_follow; kept = kept }) (bits_of-zero 0) in
    series-reported items bits fresh_follower (record { follower = fresh_follow; kept = [] }) begins ∙ reported-followed true items bits

pub followers-follow-from : FollowersFollowFrom
followers-follow-from place items bits =
    let begins : parts_held (record fresh_follower { reached = place }) ≡ record { follower = fresh_follow; kept = [] }
    = ap (λ (kept : List Bool). record { follower = fresh_follow; kept = kept }) (bits_of-zero 0) in
    series-reported items bits (record fresh_follower { reached = place }) (record { follower = fresh_follow; kept = [] }) begins ∙ reported-followed true items bits

-- ---- the bits of an item

pub items-cut : ItemsAreCut
items-cut recording given item piece there =
    let place = place_of item in
    let count = covered item in
    let inside = placed-of given.begin place (length given.octets) (second_so _ _ (first_so _ _ there)) in
    let within : place + count ≤ given.begin + 8 * length given.octets = leb-true (place + count) (given.begin + 8 * length given.octets) (second_so _ _ there) in
    let before = octet_bits piece.before in
    let own = octet_bits given.octets in
    let after = octet_bits piece.after in
    let at = place - given.begin in
    let long : length before ≡ given.begin = length-octet_bits piece.before ∙ sym piece.begins in
    let split : given.begin + at ≡ place = omega (arith, inside.order) in
    let joined : octet_bits recording ≡ before ++ (own ++ after)
    = ap octet_bits piece.whole ∙ octet_bits-append piece.before (given.octets ++ piece.after) ∙ ap (λ (zs : List Bool). before ++ zs) (octet_bits-append given.octets piece.after) in
    sym
    (ap (part place count) joined
    ∙ ap (λ (n : ℕ). part n count (before ++ (own ++ after))) (sym split)
    ∙ ap (take count) (drop_behind given.begin at before (own ++ after) long)
    ∙ part_left at count own after (omega (arith, within, inside.order, length-octet_bits given.octets)))
