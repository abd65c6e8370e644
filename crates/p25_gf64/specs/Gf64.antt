-- GF(64) as a field.
use Rattle.std.specs.{Prelude.{◌≡◌, ◌≢◌, ◌⊎◌, ℕ}, Int.Bits.{xor_assoc, xor_comm, xor_self, xor_zero_r}}
use Rattle.std.proofs.{Common.{ap, inl, inr, arith}, lemmas.Bool.{cases_eq}}
use Rattle.p25_gf64.specs.{Field.{Field, FieldLaws}, ProductLaws.{product_comm, product_assoc, product-one, product_inverse, product-xor}}
use Rattle.p25_gf64.specs.{Symbol.{number, same_symbol, zero_symbol, one_symbol, sum_of, product_of, inverse_of}, declared.symbol.Sym.{Sym}}

one_apart : one_symbol ≢ zero_symbol
unfolding one_symbol zero_symbol
one_apart e = absurd (one_apart_number (ap number e))
  where
    one_apart_number : ◌≡◌ {A = ℕ} 1 0 → ⊥
    one_apart_number h = omega arith

pub gf64_laws : FieldLaws zero_symbol one_symbol sum_of product_of inverse_of
unfolding zero_symbol one_symbol sum_of product_of inverse_of
gf64_laws = record {
  add_comm = λ x y. same_symbol _ _ (xor_comm (number x) (number y));
  add_assoc = λ x y z. same_symbol _ _ (xor_assoc (number x) (number y) (number z));
  add_zero = λ x. same_symbol _ _ (xor_zero_r (number x));
  add_self = λ x. same_symbol _ _ (xor_self (number x));
  mul_comm = λ x y. same_symbol _ _ (product_comm (number x) (number y) x.below y.below);
  mul_assoc = λ x y z. same_symbol _ _ (product_assoc (number x) (number y) (number z) x.below y.below);
  mul_one = λ x. same_symbol _ _ (product-one (number x) x.below);
  mul_inverse = λ x apart. same_symbol _ _ (product_inverse (number x) x.below (λ e. apart (same_symbol _ _ e)));
  mul_add = λ x y z. same_symbol _ _ (product-xor (number x) (number y) (number z) x.below y.below z.below);
  one_ne_zero = one_apart;
}

pub gf64_is_zero : (x : Sym) → (x ≡ zero_symbol) ⊎ (x ≢ zero_symbol)
unfolding zero_symbol
gf64_is_zero x =
    elim (cases_eq (number x) 0) [ inl same ↦ inl (same_symbol _ _ same) | inr apart ↦ inr (λ e. apart (ap number e)) ]

-- the field of the 64 symbols
unfoldable pub gf64 : Field Sym
gf64 = record {
  zero = zero_symbol;
  one = one_symbol;
  add = sum_of;
  mul = product_of;
  inverse = inverse_of;
  laws = gf64_laws;
  is_zero = gf64_is_zero;
}
