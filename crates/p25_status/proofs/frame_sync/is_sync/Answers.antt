use Rattle.std.proofs.Common.{◌≡◌, ℕ, ◌≤◌, List, Bool, ap, sym, subst, ◌∙◌}
use Rattle.p25_bits.specs.{Bits.{bits_of, part}, Distance.{distance_of}}
use Rattle.p25_bits.proofs.NumbersLaws.{bits_of-field}
use Rattle.p25_status.specs.Sync.{sync_bits, sync_slack}
use Rattle.p25_status.proofs.frame_sync.is_sync.Goals as goal

pub is_sync_window-requires : goal.is_sync_window-requires
is_sync_window-requires c = c.field.ensures.fits

pub returns : goal.returns
returns c =
    let bits = part c.args.at 48 c.args.bits.now in
    let same : bits_of 48 c.field.result ≡ bits = ap (bits_of 48) c.field.ensures.value ∙ bits_of-field 48 c.args.at c.args.bits.now c.requires in
    let distance = ap (λ (xs : List Bool). distance_of xs sync_bits) same in (
      λ near. subst (λ (n : ℕ). n ≤ sync_slack) distance (c.is_sync_window.ensures.0 near),
      λ near. c.is_sync_window.ensures.1 (subst (λ (n : ℕ). n ≤ sync_slack) (sym distance) near),
    )
