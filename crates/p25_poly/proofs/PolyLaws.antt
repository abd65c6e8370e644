-- A polynomial is determined by its coefficients, and so are quotient and remainder.
use Rattle.std.proofs.{Common.{◌≡◌, ℕ, ◌<◌, List, length, sym, ap, ◌∙◌, arith}, lemmas.List.{ext_get_or}}
use Rattle.std.specs.Coded.{Coded-set, coded_ℕ}
use Rattle.p25_gf64.specs.{declared.symbol.Sym.{Sym}, Gf64.{gf64}}
use Rattle.p25_algebra.specs.Series.{product_at, IsShort, IsDegree}
use Rattle.p25_algebra.proofs.ProductLaws.{same_degree, same_quotient, same_remainder}
use Rattle.p25_poly.specs.{declared.polynomial.Poly.{Poly}, Polynomial.{coefficient_of, IsDivision}}
use Rattle.p25_poly.proofs.{CoefficientLaws.{short_list}, DivisionLaws.{DividedTo}}

abbrev pub poly_of : (coefficients : List Sym) → length coefficients ≡ 64 → Poly
poly_of coefficients full = record { coefficients = coefficients; full = full }

pub same_made : (f g : List Sym) → f ≡ g → (p : length f ≡ 64) (q : length g ≡ 64) → poly_of f p ≡ poly_of g q
same_made f g e p =
    rw (← e) (λ q. ap (λ r. poly_of f r) (Coded-set coded_ℕ (length f) 64 p q))

-- polynomials with the same 64 coefficients are one polynomial
pub same_polynomial : (p q : Poly) → ((i : ℕ) → i < 64 → coefficient_of p i ≡ coefficient_of q i) → p ≡ q
same_polynomial p q e =
    same_made p.coefficients q.coefficients (ext_get_or gf64.zero p.coefficients q.coefficients (p.full ∙ sym q.full) (λ i h. e i (omega arith))) p.full q.full

-- a polynomial has no coefficient from x^64 on
pub short_polynomial : (p : Poly) → IsShort gf64 64 (coefficient_of p)
short_polynomial p = short_list gf64 64 p.coefficients p.full

-- a quotient that has all its coefficients is the quotient
pub divided_all : (i d : ℕ) (p by : Poly) (q r : List Sym) (q_full : length q ≡ 64) (r_full : length r ≡ 64)
    → i ≡ 0 → IsDegree gf64 (coefficient_of by) d → DividedTo gf64 i (coefficient_of p) (coefficient_of by) d q r
    → IsDivision p by (poly_of q q_full) (poly_of r r_full)
divided_all i d p by q r q_full r_full none top divided = record {
  whole = divided.whole;
  lower = λ e degree. record { above = λ k h. divided.reduced k (omega (arith, same_degree gf64 (coefficient_of by) d e top degree)) };
}

-- two divisions of one polynomial by another have one quotient and one remainder
pub unique_division : (d : ℕ) (p by q r s t : Poly) → IsDegree gf64 (coefficient_of by) d → IsDivision p by q r → IsDivision p by s t → (q ≡ s) × (r ≡ t)
unique_division d p by q r s t degree first second = (
  same_polynomial q s (λ i low. same_quotient gf64 64 (coefficient_of by)
      (coefficient_of q) (coefficient_of s) (coefficient_of r) (coefficient_of t) d degree (short_polynomial q) (short_polynomial s) (first.lower d degree)
      (second.lower d degree) same i),
  same_polynomial r t (λ i low. same_remainder gf64 64 (coefficient_of by)
      (coefficient_of q) (coefficient_of s) (coefficient_of r) (coefficient_of t) d degree (short_polynomial q) (short_polynomial s) (first.lower d degree)
      (second.lower d degree) same i),
)
  where
    same : (i : ℕ) → gf64.add (product_at gf64 (coefficient_of by) (coefficient_of q) i) (coefficient_of r i) ≡ gf64.add (product_at gf64 (coefficient_of by) (coefficient_of s) i) (coefficient_of t i)
    same i = sym (first.whole i) ∙ second.whole i
