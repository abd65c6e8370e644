-- Terminators (TDU; TIA-102.BAAA, Simple Terminator Data Unit) as transmitted and as received.
use Rattle.std.specs.Prelude.{◌≡◌, ◌↔◌, ℕ, ◌+◌, ◌<◌, ◌≤◌, Bool, false, List, ◌++◌, length, take, replicate}
use Rattle.p25_bits.specs.Distance.{distance_of}
use Rattle.p25_status.specs.{Sync.{sync_bits}, Woven.{woven}, declared.symbols.Status.{Status}}
use Rattle.p25_bch_nid.specs.{Duids.{duid_tdu}, NidWord.{nid_word}}
use Rattle.p25_unit_front.specs.Front.{identifier_bits}
use Rattle.p25_voice_units.specs.declared.unit.VoiceUnit.TheVariants.{End}
use Rattle.p25_units.specs.{Fixes.{fixes_of}, UnitParts.{UnitParts}, WithinRadius.{IsWithinRadius}, declared.unit.Body.TheVariants.{Voice}}
use Rattle.p25_units.specs.declared.frame.Frame.{Frame}

-- a terminator (TDU) with a network access code (NAC), and its status symbols
abbrev pub terminator : ℕ → List Status → Frame
terminator nac statuses =
    let unit : UnitParts = record { nac = nac; body = Voice End } in
    record { unit = unit; statuses = statuses }

-- its transmitted bits: the sync, the network identifier (NID) with the data unit identifier (DUID) of a terminator, 28 nulls, and the status symbols
abbrev pub terminator_bits : ℕ → List Status → List Bool
terminator_bits nac statuses = woven ((sync_bits ++ nid_word nac duid_tdu) ++ replicate 28 false) statuses

-- the number of bit errors in the sync of some bits
abbrev pub sync_errors : List Bool → ℕ
sync_errors bits = distance_of (take 48 bits) sync_bits

-- the number of the first 63 bits of their network identifier (NID) that differ from those of a terminator with a network access code
abbrev pub identifier_errors : ℕ → List Bool → ℕ
identifier_errors nac bits = distance_of (take 63 (identifier_bits bits)) (take 63 (nid_word nac duid_tdu))

-- bits begin with a terminator (TDU) with a network access code of 12 bits, damaged or not: 144 are there, at most 4 are wrong in the sync, and at
-- most 11 among the first 63 of the NID
pub record HasTerminator (nac : ℕ) (bits : List Bool) : Type 0 where
  pub there : 144 ≤ length bits
  pub fits : nac < 4096
  pub sync : sync_errors bits ≤ 4
  pub identifier : identifier_errors nac bits ≤ 11

-- they do if and only if the first 144 lie within the correction radius of its frame
abbrev pub TerminatorIsNear : Type 0
TerminatorIsNear =
    (nac : ℕ) (statuses : List Status) (bits : List Bool) → length statuses ≡ 2 → nac < 4096 → 144 ≤ length bits
    → HasTerminator nac bits ↔ IsWithinRadius (terminator nac statuses) (take 144 bits)

-- the fixes of a terminator (TDU) are the bit errors of its sync and of its network identifier (NID)
abbrev pub ErrorsAreFixes : Type 0
ErrorsAreFixes =
    (nac : ℕ) (statuses : List Status) (bits : List Bool)
    → 144 ≤ length bits → fixes_of (terminator nac statuses) (take 144 bits) ≡ sync_errors bits + identifier_errors nac bits
