-- Retransmission of items.
use Rattle.std.specs.Prelude.{ℕ, Bool, true, false, List, length, replicate}
use Rattle.p25_status.specs.declared.symbols.Status.{Status}
use Rattle.p25_units.specs.{Units.{frame_as, image_of}, declared.frame.Frame.{Frame}, declared.item.Item.{Item}}
use Rattle.p25_units.specs.declared.item.Item.TheVariants.{Whole, Broken, NoUnit, Gap, Cut}

-- the bits of an item, repaired: those of the frame of a whole data unit, and all other bits unchanged
abbrev pub repaired : Item → List Bool → List Bool
repaired (Whole place frame fixes) raw = image_of frame
repaired (Broken place count nac duid fields) raw = raw
repaired (NoUnit place field) raw = raw
repaired (Gap place count) raw = raw
repaired (Cut place have) raw = raw

-- a frame with another network access code (NAC) and one status symbol instead of all
abbrev pub bridged_frame : ℕ → Status → Frame → Frame
bridged_frame nac status frame = frame_as nac (replicate (length frame.statuses) status) frame

-- the bits that a bridge transmits for an item: those of a whole data unit's frame with these changes, and the former output for all others
abbrev pub bridged : ℕ → Status → Item → List Bool → List Bool
bridged nac status (Whole place frame fixes) before = image_of (bridged_frame nac status frame)
bridged nac status (Broken place count ours duid fields) before = before
bridged nac status (NoUnit place field) before = before
bridged nac status (Gap place count) before = before
bridged nac status (Cut place have) before = before

-- whether it transmits something
abbrev pub is_whole_item : Item → Bool
is_whole_item (Whole place frame fixes) = true
is_whole_item (Broken place count nac duid fields) = false
is_whole_item (NoUnit place field) = false
is_whole_item (Gap place count) = false
is_whole_item (Cut place have) = false
