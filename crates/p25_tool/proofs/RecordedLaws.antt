-- Recordings of data units within the correction radius: their items are known, so each command writes its output for whole data units, by induction
-- on the list of data units. Images have 72 bits for each status symbol, so they fill whole octets.
use Rattle.std.proofs.Common.{◌≡◌, ℕ, ◌+◌, ◌*◌, ◌/◌, ◌%◌, ◌<◌, Bool, true, false, List, [], ◌∷◌, ◌++◌, length, map, take, drop, replicate, refl, ap, ap₂, sym, subst, ◌∙◌, arith, append-nil, length-append}
use Rattle.std.proofs.{lemmas.List.{drop-append-le, drop_all, length-replicate, take-append-le, take_all}, lemmas.List.Elements.{All-head, All-map, All-tail, All-weaker}}
use Rattle.std.proofs.lemmas.List.Folds.{flat_map-map}
use Rattle.std.specs.{Prelude.{All, Option, Some, None}, List.{flat_map}}
use Rattle.p25_bits.specs.Bits.{octet_bits}
use Rattle.p25_bits.proofs.NumbersLaws.{number_bits-numbers_from, number_bits-octets}
use Rattle.p25_status.specs.declared.symbols.Status.{Status}
use Rattle.p25_units.specs.{Items.{covered}, Units.{IsSendableUnit, IsSoundFrame, image_of, whole_octets}, declared.frame.Frame.{Frame}, declared.item.Item.{Item}}
use Rattle.p25_units.specs.declared.item.Item.TheVariants.{Whole}
use Rattle.p25_units.proofs.{UnitsLaws.{IsSoundFrame-frame_as, length-image_of-blocks}, WithinRadiusLaws.{IsWithinRadius-image_of, received-image_of}}
use Rattle.p25_stream.specs.{Arrivals.{Arrival, IsNearArrival, bits_arrived, frame_arrived, whole_of, wholes_of}, Items.{items_by}, Repeats.{bridged, bridged_frame, repaired}, Written.{written}}
use Rattle.p25_stream.proofs.{ArrivalLaws.{covered-whole_of, frame_arrived-sound, units-whole, wholes_of-cons, wholes_of-nil}, ItemsLaws.{items_by-nil}}
use Rattle.p25_follow.specs.{Followed.{followed_by, unit_name}, Relayed.{relayed}}
use Rattle.p25_follow.proofs.{ChainLaws.{chain_by-nil}, FollowingLaws.{followed-end, followed-unit}}
use Rattle.p25_recording_filters.specs.ItemOutputs.{changed_bits, check_ending, check_line, faults_in, faulty, shown, units_in}
use Rattle.p25_tool.specs.Recorded.{AreOctetsOf, BridgesUnits, ChecksUnits, FollowsUnits, IsRecording, RelaysItself, RelaysUnits, images_bridged, RepairedIsRecorded, RepairsUnits, ShowsUnits, UnitsAreRecorded, undamaged}

-- bits that fill whole octets are those of the octets
pub octet_bits-whole : (bits : List Bool) → length bits % 8 ≡ 0 → octet_bits (whole_octets bits) ≡ bits
octet_bits-whole bits whole =
    let n = length bits / 8 in
    sym (number_bits-octets (whole_octets bits))
    ∙ number_bits-numbers_from 8 n bits (omega arith)
    ∙ take_all (8 * n) bits (omega arith)

-- lists that each fill whole octets fill whole octets
pub whole-each : {X : Type 0} (f : X → List Bool) (P : X → Type 0) → ((x : X) → P x → length (f x) % 8 ≡ 0) → (xs : List X) → All P xs → length (flat_map f xs) % 8 ≡ 0
whole-each f P each [] all = refl
whole-each f P each (x ∷ xs) all = omega (arith, length-append (f x) (flat_map f xs), each x (All-head P x xs all), whole-each f P each xs (All-tail P x xs all))

-- lists that are the same each are the same end to end
pub flat_map-each : {X A : Type 0} (f g : X → List A) (P : X → Type 0) → ((x : X) → P x → f x ≡ g x) → (xs : List X) → All P xs → flat_map f xs ≡ flat_map g xs
flat_map-each f g P each [] all = refl
flat_map-each f g P each (x ∷ xs) all = ap₂ ◌++◌ (each x (All-head P x xs all)) (flat_map-each f g P each xs (All-tail P x xs all))

-- an image fills whole octets
pub whole-image : (frame : Frame) → IsSoundFrame frame → IsSendableUnit frame.unit → length (image_of frame) % 8 ≡ 0
whole-image frame sound sendable = omega (arith, length-image_of-blocks frame sound sendable)

module _ (arrival : Arrival) (is : IsNearArrival arrival) where
  -- so do the bits of a data unit, and its image as received
  whole-bits : length arrival.bits % 8 ≡ 0
  whole-bits = omega (arith, is.near.front.long, whole-image arrival.frame is.sound is.sendable)

  whole-arrived : length (image_of (frame_arrived arrival)) % 8 ≡ 0
  whole-arrived = let read = frame_arrived-sound 0 arrival is in whole-image (frame_arrived arrival) read.0 read.1

  whole-bridged : (nac : ℕ) (status : Status) → nac < 4096 → length (image_of (bridged_frame nac status (frame_arrived arrival))) % 8 ≡ 0
  whole-bridged nac status fits =
      let frame = frame_arrived arrival in
      let read = frame_arrived-sound 0 arrival is in
      let count = length frame.statuses in
      whole-image (bridged_frame nac status frame) (IsSoundFrame-frame_as nac (replicate count status) frame read.0 (length-replicate count status))
      (record { nac_fits = omega (arith, fits); body = read.1.body })

  -- it is received as it is
  undamaged-near : IsNearArrival (undamaged arrival)
  undamaged-near =
      let read = frame_arrived-sound 0 arrival is in
      record { sound = read.0; sendable = read.1; near = IsWithinRadius-image_of (frame_arrived arrival) read.0 read.1 }

  undamaged-same : image_of (frame_arrived (undamaged arrival)) ≡ image_of (frame_arrived arrival)
  undamaged-same = let read = frame_arrived-sound 0 arrival is in ap image_of (received-image_of (frame_arrived arrival) read.0 read.1)

-- the items of a recording
pub items-recording : (ended : Bool) (arrivals : List Arrival) (octets : List ℕ) → IsRecording arrivals octets → items_by ended 0 (octet_bits octets) ≡ wholes_of 0 arrivals
items-recording ended arrivals octets is =
    let wholes = wholes_of 0 arrivals in
    ap (items_by ended 0) (is.bits ∙ sym (append-nil (bits_arrived arrivals)))
    ∙ units-whole ended 0 arrivals [] is.near
    ∙ ap (λ (items : List Item). wholes ++ items) (items_by-nil ended (0 + length (bits_arrived arrivals)))
    ∙ append-nil wholes

pub units-recorded : UnitsAreRecorded
units-recorded arrivals near = record { near = near; bits = octet_bits-whole (bits_arrived arrivals) (whole-each (λ arrival. arrival.bits) IsNearArrival whole-bits arrivals near) }

pub shows-units : ShowsUnits
shows-units ended arrivals octets is = ap (flat_map shown) (items-recording ended arrivals octets is)

-- whole data units have no text in a check, and are counted
no-faulty : (place : ℕ) (arrivals : List Arrival) → flat_map faulty (wholes_of place arrivals) ≡ []
no-faulty place [] = ap (flat_map faulty) (wholes_of-nil place)
no-faulty place (arrival ∷ arrivals) = ap (flat_map faulty) (wholes_of-cons place arrival arrivals) ∙ no-faulty (place + length arrival.bits) arrivals

no-faults : (place : ℕ) (arrivals : List Arrival) → faults_in (wholes_of place arrivals) ≡ 0
unfolding faults_in
no-faults place [] = ap faults_in (wholes_of-nil place)
no-faults place (arrival ∷ arrivals) = omega (arith, ap faults_in (wholes_of-cons place arrival arrivals), no-faults (place + length arrival.bits) arrivals)

all-units : (place : ℕ) (arrivals : List Arrival) → units_in (wholes_of place arrivals) ≡ length arrivals
unfolding units_in
all-units place [] = ap units_in (wholes_of-nil place)
all-units place (arrival ∷ arrivals) = omega (arith, ap units_in (wholes_of-cons place arrival arrivals), all-units (place + length arrival.bits) arrivals)

pub checks-units : ChecksUnits
checks-units arrivals octets is =
    let wholes = wholes_of 0 arrivals in (
      ap (λ (items : List Item). flat_map faulty items ++ check_line (units_in items) (faults_in items)) (items-recording true arrivals octets is)
          ∙ ap (λ (text : List ℕ). text ++ check_line (units_in wholes) (faults_in wholes)) (no-faulty 0 arrivals)
          ∙ ap₂ check_line (all-units 0 arrivals) (no-faults 0 arrivals),
      ap (λ (items : List Item). flat_map faulty items ++ []) (items-recording false arrivals octets is) ∙ append-nil (flat_map faulty wholes) ∙ no-faulty 0 arrivals,
      ap (λ (items : List Item). Some (check_ending (faults_in items))) (items-recording true arrivals octets is) ∙ ap (λ (n : ℕ). Some (check_ending n)) (no-faults 0 arrivals),
    )

-- the bits of whole data units, each changed by its frame alone
module _ (change : Item → List Bool → List Bool) (of_frame : Frame → List Bool)
    (by_frame : (place : ℕ) (frame : Frame) (fixes : ℕ) (raw : List Bool) → change (Whole place frame fixes) raw ≡ of_frame frame) where
  changed-wholes : (place : ℕ) (arrivals : List Arrival) → All IsNearArrival arrivals
      → changed_bits change (wholes_of place arrivals) (bits_arrived arrivals) ≡ flat_map (λ (arrival : Arrival). of_frame (frame_arrived arrival)) arrivals
  unfolding written
  changed-wholes place [] near = ap (λ (items : List Item). changed_bits change items []) (wholes_of-nil place)
  changed-wholes place (arrival ∷ arrivals) near =
      let bits = arrival.bits in
      let later = bits_arrived arrivals in
      let items = wholes_of (place + length bits) arrivals in
      let long = covered-whole_of place arrival (All-head IsNearArrival arrival arrivals near) in
      let behind : drop (length bits) (bits ++ later) ≡ later
      = drop-append-le (length bits) bits later (omega arith) ∙ ap (λ (left : List Bool). left ++ later) (drop_all (length bits) bits (omega arith)) in
      ap (λ (all : List Item). changed_bits change all (bits ++ later)) (wholes_of-cons place arrival arrivals)
      ∙ ap₂ ◌++◌ (by_frame place (frame_arrived arrival) _ (take (covered (whole_of place arrival)) (bits ++ later)))
      (ap (λ (n : ℕ). changed_bits change items (drop n (bits ++ later))) long
      ∙ ap (changed_bits change items) behind
      ∙ changed-wholes (place + length bits) arrivals (All-tail IsNearArrival arrival arrivals near))

  pub changed-recording : (ended : Bool) (arrivals : List Arrival) (octets : List ℕ) → IsRecording arrivals octets
      → ((arrival : Arrival) → IsNearArrival arrival → length (of_frame (frame_arrived arrival)) % 8 ≡ 0)
      → AreOctetsOf (flat_map (λ (arrival : Arrival). of_frame (frame_arrived arrival)) arrivals) (whole_octets (changed_bits change (items_by ended 0 (octet_bits octets)) (octet_bits octets)))
  changed-recording ended arrivals octets is whole =
      let images : List Bool = flat_map (λ (arrival : Arrival). of_frame (frame_arrived arrival)) arrivals in
      let same : whole_octets (changed_bits change (items_by ended 0 (octet_bits octets)) (octet_bits octets)) ≡ whole_octets images
      = ap whole_octets (ap₂ (changed_bits change) (items-recording ended arrivals octets is) is.bits ∙ changed-wholes 0 arrivals is.near) in
      record {
        octets_are = same;
        bits_are = ap octet_bits same ∙ octet_bits-whole images (whole-each (λ (arrival : Arrival). of_frame (frame_arrived arrival)) IsNearArrival whole arrivals is.near);
      }

pub repairs-units : RepairsUnits
repairs-units ended arrivals octets is = changed-recording repaired image_of (λ place frame fixes raw. refl) ended arrivals octets is whole-arrived

pub bridges-units : BridgesUnits
bridges-units ended nac status arrivals octets fits is =
    changed-recording (λ item raw. bridged nac status item []) (λ frame. image_of (bridged_frame nac status frame)) (λ place frame fixes raw. refl) ended arrivals octets is
    (λ arrival near. whole-bridged arrival near nac status fits)

pub relays-units : RelaysUnits
relays-units ended nac status arrivals octets fits is =
    changed-recording (relayed nac status) (λ frame. image_of (bridged_frame nac status frame)) (λ place frame fixes raw. refl) ended arrivals octets is
    (λ arrival near. whole-bridged arrival near nac status fits)

-- data units end to end have no stretch, so their bits are unchanged
followed-wholes : (ended : Bool) (before : Option (ℕ × ℕ)) (place : ℕ) (arrivals : List Arrival) → All IsNearArrival arrivals
    → followed_by ended before [] (wholes_of place arrivals) (bits_arrived arrivals) ≡ bits_arrived arrivals
followed-wholes ended before place [] near =
    ap (λ (items : List Item). followed_by ended before [] items []) (wholes_of-nil place) ∙ followed-end ended before [] [] ∙ chain_by-nil ended before None
followed-wholes ended before place (arrival ∷ arrivals) near =
    let bits = arrival.bits in
    let later = bits_arrived arrivals in
    let unit = whole_of place arrival in
    let items = wholes_of (place + length bits) arrivals in
    let long = covered-whole_of place arrival (All-head IsNearArrival arrival arrivals near) in
    let behind : drop (length bits) (bits ++ later) ≡ later
    = drop-append-le (length bits) bits later (omega arith) ∙ ap (λ (left : List Bool). left ++ later) (drop_all (length bits) bits (omega arith)) in
    let first : take (length bits) (bits ++ later) ≡ bits
    = take-append-le (length bits) bits later (omega arith) ∙ take_all (length bits) bits (omega arith) in
    ap (λ (all : List Item). followed_by ended before [] all (bits ++ later)) (wholes_of-cons place arrival arrivals)
    ∙ followed-unit ended before [] unit items (bits ++ later) refl
    ∙ ap (λ (zs : List Bool). zs ++ (take (covered unit) (bits ++ later)
    ++ followed_by ended (unit_name unit) [] items (drop (covered unit) (bits ++ later)))) (chain_by-nil true before (unit_name unit))
    ∙ ap (λ (n : ℕ). take n (bits ++ later) ++ followed_by ended (unit_name unit) [] items (drop n (bits ++ later))) long
    ∙ ap₂ (λ (raw left : List Bool). raw ++ followed_by ended (unit_name unit) [] items left) first behind
    ∙ ap (λ (zs : List Bool). bits ++ zs) (followed-wholes ended (unit_name unit) (place + length bits) arrivals (All-tail IsNearArrival arrival arrivals near))

-- the output of `follow` for them is their bits, whether the input has ended or not
pub follows-arrived : (ended : Bool) (arrivals : List Arrival) (octets : List ℕ) → IsRecording arrivals octets
    → AreOctetsOf (bits_arrived arrivals) (whole_octets (followed_by ended None [] (items_by ended 0 (octet_bits octets)) (octet_bits octets)))
follows-arrived ended arrivals octets is =
    let bits = bits_arrived arrivals in
    let same : whole_octets (followed_by ended None [] (items_by ended 0 (octet_bits octets)) (octet_bits octets)) ≡ whole_octets bits
    = ap whole_octets (ap₂ (followed_by ended None []) (items-recording ended arrivals octets is) is.bits ∙ followed-wholes ended None 0 arrivals is.near) in
    record {
      octets_are = same;
      bits_are = ap octet_bits same ∙ octet_bits-whole bits (whole-each (λ (arrival : Arrival). arrival.bits) IsNearArrival whole-bits arrivals is.near);
    }

pub follows-units : FollowsUnits
follows-units ended arrivals octets is =
    let out = whole_octets (followed_by ended None [] (items_by ended 0 (octet_bits octets)) (octet_bits octets)) in
    subst (λ (bits : List Bool). AreOctetsOf bits out) (sym is.bits) (follows-arrived ended arrivals octets is)

pub relays-itself : RelaysItself
relays-itself ended nac status arrivals octets fits is same =
    let images : images_bridged nac status arrivals ≡ octet_bits octets
    = flat_map-each (λ arrival. image_of (bridged_frame nac status (frame_arrived arrival))) (λ arrival. arrival.bits)
    (λ arrival. image_of (bridged_frame nac status (frame_arrived arrival)) ≡ arrival.bits) (λ arrival e. e) arrivals same
    ∙ sym is.bits in
    let out = whole_octets (changed_bits (relayed nac status) (items_by ended 0 (octet_bits octets)) (octet_bits octets)) in
    subst (λ (bits : List Bool). AreOctetsOf bits out) images (relays-units ended nac status arrivals octets fits is)

pub repaired-recorded : RepairedIsRecorded
repaired-recorded ended arrivals octets is =
    let again = repairs-units ended arrivals octets is in
    let undamaged_is : IsRecording (map undamaged arrivals) _
    = record {
      near = All-map IsNearArrival undamaged arrivals (All-weaker IsNearArrival (λ arrival. IsNearArrival (undamaged arrival)) undamaged-near arrivals is.near);
      bits = again.bits_are ∙ sym (flat_map-map (λ (arrival : Arrival). arrival.bits) undamaged arrivals);
    } in
    let twice = repairs-units true (map undamaged arrivals) _ undamaged_is in (
      undamaged_is,
      twice.octets_are
          ∙ ap whole_octets
          (flat_map-map (λ (arrival : Arrival). image_of (frame_arrived arrival)) undamaged arrivals
          ∙ flat_map-each (λ arrival. image_of (frame_arrived (undamaged arrival))) (λ arrival. image_of (frame_arrived arrival)) IsNearArrival undamaged-same arrivals is.near)
          ∙ sym again.octets_are,
    )
