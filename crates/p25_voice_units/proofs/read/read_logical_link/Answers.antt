use Rattle.std.proofs.Common.{◌≡◌, ◌⊎◌, inl, inr, ℕ}
use Rattle.p25_bch_nid.specs.Duids.{duid_ldu1, duid_ldu2}
use Rattle.p25_link.specs.Words.{link_symbols, link_of_symbols, sync_symbols, sync_of_symbols}
use Rattle.p25_status.specs.declared.fields.Field.TheVariants.{LinkControl as LinkField, EncryptionSync as SyncField}
use Rattle.p25_voice_units.specs.declared.unit.VoiceUnit.TheVariants.{Link1, Link2}
use Rattle.p25_voice_units.proofs.{LinkUnitsLaws.{AreParts, ldu1_kind, ldu2_kind, kind_read, kind_fails}, read.read_logical_link.Goals.{then-duid-eq-LDU1, else-duid-eq-LDU1}}
use Rattle.p25_voice_units.proofs.read.read_logical_link.Goals as goal

-- the type that is not the first is the second
second_kind : (duid : ℕ) → (duid ≡ duid_ldu1) ⊎ (duid ≡ duid_ldu2) → (duid ≡ duid_ldu1 → ⊥) → duid ≡ duid_ldu2
second_kind duid (inl first) other = absurd (other first)
second_kind duid (inr second) other = second

pub returns-then-duid-eq-LDU1-2 : goal.returns-then-duid-eq-LDU1-2
returns-then-duid-eq-LDU1-2 c =
    let join = c.if-duid-eq-LDU1 in
    let parts : AreParts 12 LinkField c.args.bare.now join.outcome join.link join.low = elim c.if-duid-eq-LDU1.branch [
      | then-duid-eq-LDU1 w ↦
          let read = w.read_ldu-outcome.ensures in
          rw (w.outcome-is, w.link-is, w.low-is) (record { value = read.value; wrong = read.wrong; most = read.most })
      | else-duid-eq-LDU1 w ↦ absurd (w.if-duid-eq-LDU1.false c.if-duid-eq-LDU1-2.true)
    ] in
    let read = kind_read duid_ldu1 12 LinkField Link1 link_symbols link_of_symbols ldu1_kind c.args.bare.now join.link join.low join.outcome c.from_symbols-link.result c.read_frames-voice.result
    c.args.duid c.if-duid-eq-LDU1-2.true c.requires.there parts c.from_symbols-link.ensures c.read_frames-voice.ensures in
    record { value = read.value; wrong = read.wrong; most = read.most }

pub returns-else-duid-eq-LDU1-2 : goal.returns-else-duid-eq-LDU1-2
returns-else-duid-eq-LDU1-2 c =
    let join = c.if-duid-eq-LDU1 in
    let parts : AreParts 16 SyncField c.args.bare.now join.outcome join.sync join.low = elim c.if-duid-eq-LDU1.branch [
      | then-duid-eq-LDU1 w ↦ absurd (c.if-duid-eq-LDU1-2.false w.if-duid-eq-LDU1.true)
      | else-duid-eq-LDU1 w ↦
          let read = w.read_ldu-outcome-else-duid-eq-LDU1.ensures in
          rw (w.outcome-is, w.sync-is, w.low-is) (record { value = read.value; wrong = read.wrong; most = read.most })
    ] in
    let second = second_kind c.args.duid c.requires.kind c.if-duid-eq-LDU1-2.false in
    let read = kind_read duid_ldu2 16 SyncField Link2 sync_symbols sync_of_symbols ldu2_kind c.args.bare.now join.sync join.low join.outcome c.from_symbols-sync.result c.read_frames-voice.result
    c.args.duid second c.requires.there parts c.from_symbols-sync.ensures c.read_frames-voice.ensures in
    record { value = read.value; wrong = read.wrong; most = read.most }

pub returns-in_default-clause-value : goal.returns-in_default-clause-value
returns-in_default-clause-value c =
    let join = c.if-duid-eq-LDU1 in
    let fails = c.in_default in
    elim c.if-duid-eq-LDU1.branch [
      | then-duid-eq-LDU1 w ↦
          let read = w.read_ldu-outcome.ensures in
          kind_fails duid_ldu1 12 LinkField Link1 link_symbols link_of_symbols ldu1_kind c.args.bare.now join.link join.low join.outcome fails.field-0 c.args.unit.now
          c.args.duid w.if-duid-eq-LDU1.true (rw (w.outcome-is, w.link-is, w.low-is) (record { value = read.value; wrong = read.wrong; most = read.most })) fails.is
      | else-duid-eq-LDU1 w ↦
          let read = w.read_ldu-outcome-else-duid-eq-LDU1.ensures in
          let second = second_kind c.args.duid c.requires.kind w.if-duid-eq-LDU1.false in
          kind_fails duid_ldu2 16 SyncField Link2 sync_symbols sync_of_symbols ldu2_kind c.args.bare.now join.sync join.low join.outcome fails.field-0 c.args.unit.now
          c.args.duid second (rw (w.outcome-is, w.sync-is, w.low-is) (record { value = read.value; wrong = read.wrong; most = read.most })) fails.is
    ]
