-- The types of calls, by the cases of octet 0.
use Rattle.std.proofs.{Common.{◌≡◌, ◌≢◌, ◌↔◌, eqb, slice_index, sym, ◌∙◌, arith}, lemmas.Bool.{cond-true, cond-false, eq-eqb, ne_eqb}}
use Rattle.p25_link.specs.{declared.link_control.LinkControl.{LinkControl}, declared.link_control.LinkKind.{LinkKind}, declared.link_control.LinkKind.TheVariants.{Other}}
use Rattle.p25_link.specs.Kinds.{group_call, individual_call, link_kind_of}

pub link_kind_of-group : (link : LinkControl) → slice_index link.0 0 ≡ 0 → link_kind_of link ≡ group_call link
unfolding link_kind_of
link_kind_of-group link is = cond-true (eqb (slice_index link.0 0) 0) _ _ (eq-eqb (slice_index link.0 0) 0 is)

pub link_kind_of-individual : (link : LinkControl) → slice_index link.0 0 ≡ 3 → link_kind_of link ≡ individual_call link
unfolding link_kind_of
link_kind_of-individual link is =
    cond-false (eqb (slice_index link.0 0) 0) _ _ (ne_eqb (slice_index link.0 0) 0 (λ other. omega (arith, is, other)))
    ∙ cond-true (eqb (slice_index link.0 0) 3) _ _ (eq-eqb (slice_index link.0 0) 3 is)

pub link_kind_of-other : (link : LinkControl) → slice_index link.0 0 ≢ 0 → slice_index link.0 0 ≢ 3 → link_kind_of link ≡ Other
unfolding link_kind_of
link_kind_of-other link first second =
    cond-false (eqb (slice_index link.0 0) 0) _ _ (ne_eqb (slice_index link.0 0) 0 first)
    ∙ cond-false (eqb (slice_index link.0 0) 3) _ _ (ne_eqb (slice_index link.0 0) 3 second)

group_not_other : (link : LinkControl) → group_call link ≢ Other
unfolding group_call
group_not_other link = λ is. cc

individual_not_other : (link : LinkControl) → individual_call link ≢ Other
unfolding individual_call
individual_not_other link = λ is. cc

-- a link control that is not interpreted
pub kind_other : (link : LinkControl) (kind : LinkKind) → kind ≡ link_kind_of link → (kind ≡ Other) ↔ ((slice_index link.0 0 ≢ 0) × (slice_index link.0 0 ≢ 3))
kind_other link kind is = (
  λ other. (
    (λ zero. group_not_other link (sym (is ∙ link_kind_of-group link zero) ∙ other)),
    (λ three. individual_not_other link (sym (is ∙ link_kind_of-individual link three) ∙ other)),
  ),
  λ apart. is ∙ link_kind_of-other link apart.0 apart.1,
)
