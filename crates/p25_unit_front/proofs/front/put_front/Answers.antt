use Rattle.std.proofs.Common.{◌++◌, append_assoc, ap, ap₂, ◌∙◌}
use Rattle.p25_status.proofs.SyncLaws.{sync_bits-is}
use Rattle.p25_status.specs.Sync.{sync_bits}
use Rattle.p25_bch_nid.specs.NidWord.{nid_word}
use Rattle.p25_unit_front.specs.Front.{unit_front}
use Rattle.p25_unit_front.proofs.front.put_front.Goals as goal

pub returns-clause-list : goal.returns-clause-list
unfolding unit_front
returns-clause-list c =
    c.put_field-2.ensures.list
    ∙ ap₂ (λ xs ys. xs ++ ys) (c.put_field.ensures.list ∙ ap (λ xs. c.args.out.now ++ xs) sync_bits-is) c.nid_bits.ensures.list
    ∙ append_assoc c.args.out.now sync_bits (nid_word c.args.nid.now.nac c.args.nid.now.duid)
