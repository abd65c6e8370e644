-- The expected types: each is one of the five types of voice data units. By cases of the type before.
use Rattle.std.proofs.{Common.{◌≡◌, ℕ, ◌≤◌, true, false, cond, inl, inr, ◌⊎◌, List, [], ◌∷◌, Some, None, refl, sym, subst, arith, lit≤}, lemmas.Bool.{eqb-true, or_cases}}
use Rattle.std.specs.{Prelude.{nat_eq}, List.{list_any}}
use Rattle.p25_voice_units.specs.Lengths.{voice_length_of}
use Rattle.p25_follow.specs.Expected.{expected_after, is_expected, kind_length, next_link}

-- each type of a list has a property
abbrev pub Each : (ℕ → Type 0) → List ℕ → Type 0
Each P [] = Unit {0}
Each P (kind ∷ kinds) = P kind × Each P kinds

-- a property of all five types is one of each that is expected
module _ (P : ℕ → Type 0) (header : P 0x0) (end : P 0x3) (link1 : P 0x5) (link2 : P 0xA) (link_end : P 0xF) where
  pub expected-all : (kind : ℕ) → Each P (expected_after kind)
  unfolding expected_after
  expected-all kind =
      elim (nat_eq kind 0x0) as (λ a. Each P (cond a (0x5 ∷ 0xF ∷ 0x3 ∷ []) (cond (nat_eq kind 0x5) (0xA ∷ 0xF ∷ 0x3 ∷ [])
      (cond (nat_eq kind 0xA) (0x5 ∷ 0xF ∷ 0x3 ∷ []) (cond (nat_eq kind 0xF) (0x0 ∷ 0xF ∷ 0x3 ∷ []) []))))) [
        | true ↦ (link1, (link_end, (end, tt)))
        | false ↦ elim (nat_eq kind 0x5) as (λ a. Each P (cond a (0xA ∷ 0xF ∷ 0x3 ∷ [])
            (cond (nat_eq kind 0xA) (0x5 ∷ 0xF ∷ 0x3 ∷ []) (cond (nat_eq kind 0xF) (0x0 ∷ 0xF ∷ 0x3 ∷ []) [])))) [
              | true ↦ (link2, (link_end, (end, tt)))
              | false ↦ elim (nat_eq kind 0xA) as (λ a. Each P (cond a (0x5 ∷ 0xF ∷ 0x3 ∷ []) (cond (nat_eq kind 0xF) (0x0 ∷ 0xF ∷ 0x3 ∷ []) []))) [
                | true ↦ (link1, (link_end, (end, tt)))
                | false ↦ elim (nat_eq kind 0xF) as (λ a. Each P (cond a (0x0 ∷ 0xF ∷ 0x3 ∷ []) [])) [
                  | true ↦ (header, (link_end, (end, tt)))
                  | false ↦ tt
                ]
              ]
            ]
      ]

any-all : (P : ℕ → Type 0) (kind : ℕ) (kinds : List ℕ) → Each P kinds → list_any (λ next. nat_eq next kind) kinds ≡ true → P kind
any-all P kind [] all is = absurd (cc)
any-all P kind (next ∷ kinds) all is =
    elim (or_cases (nat_eq next kind) (list_any (λ n. nat_eq n kind) kinds) is) [
      | inl here ↦ subst P (eqb-true next kind here) all.0
      | inr later ↦ any-all P kind kinds all.1 later
    ]

pub is_expected-all : (P : ℕ → Type 0) (before kind : ℕ) → Each P (expected_after before) → is_expected before kind ≡ true → P kind
unfolding is_expected
is_expected-all P before kind all is = any-all P kind (expected_after before) all is

-- the type of a voice data unit: its transmitted bits include sync and NID, and are at most those of a logical link data unit
pub record IsKind (kind : ℕ) : Type 0 where
  pub few : 144 ≤ kind_length kind
  pub most : kind_length kind ≤ 1728
  pub fits : kind ≤ 15

length-0 : kind_length 0x0 ≡ 792
unfolding kind_length voice_length_of
length-0 = refl

length-3 : kind_length 0x3 ≡ 144
unfolding kind_length voice_length_of
length-3 = refl

pub length-5 : kind_length 0x5 ≡ 1728
unfolding kind_length voice_length_of
length-5 = refl

pub length-10 : kind_length 0xA ≡ 1728
unfolding kind_length voice_length_of
length-10 = refl

length-15 : kind_length 0xF ≡ 432
unfolding kind_length voice_length_of
length-15 = refl

is_kind : (kind n : ℕ) → kind_length kind ≡ n → 144 ≤ n → n ≤ 1728 → kind ≤ 15 → IsKind kind
is_kind kind n is few most fits = record { few = omega arith; most = omega arith; fits = fits }

pub expected-kinds : (kind : ℕ) → Each IsKind (expected_after kind)
expected-kinds kind =
    expected-all IsKind (is_kind 0x0 792 length-0 (lit≤ tt) (lit≤ tt) (lit≤ tt)) (is_kind 0x3 144 length-3 (lit≤ tt) (lit≤ tt) (lit≤ tt))
    (is_kind 0x5 1728 length-5 (lit≤ tt) (lit≤ tt) (lit≤ tt)) (is_kind 0xA 1728 length-10 (lit≤ tt) (lit≤ tt) (lit≤ tt))
    (is_kind 0xF 432 length-15 (lit≤ tt) (lit≤ tt) (lit≤ tt)) kind

-- a logical link data unit has 1,728 bits
pub record IsLink (kind : ℕ) : Type 0 where
  pub long : kind_length kind ≡ 1728
  pub fits : kind ≤ 15

link_kind : (kind next : ℕ) → next_link kind ≡ Some next → (next ≡ 0x5) ⊎ (next ≡ 0xA)
unfolding next_link
link_kind kind next =
    elim (nat_eq kind 0x0) as (λ a. cond a (Some 0x5) (cond (nat_eq kind 0x5) (Some 0xA) (cond (nat_eq kind 0xA) (Some 0x5) None)) ≡ Some next → (next ≡ 0x5) ⊎ (next ≡ 0xA)) [
      | true ↦ λ is. inl (cc)
      | false ↦ elim (nat_eq kind 0x5) as (λ a. cond a (Some 0xA) (cond (nat_eq kind 0xA) (Some 0x5) None) ≡ Some next → (next ≡ 0x5) ⊎ (next ≡ 0xA)) [
        | true ↦ λ is. inr (cc)
        | false ↦ elim (nat_eq kind 0xA) as (λ a. cond a (Some 0x5) None ≡ Some next → (next ≡ 0x5) ⊎ (next ≡ 0xA)) [
          | true ↦ λ is. inl (cc)
          | false ↦ λ is. absurd (cc)
        ]
      ]
    ]

pub link-kinds : (kind next : ℕ) → next_link kind ≡ Some next → IsLink next
link-kinds kind next is =
    elim (link_kind kind next is) [
      | inl five ↦ subst IsLink (sym five) record { long = length-5; fits = lit≤ tt }
      | inr ten ↦ subst IsLink (sym ten) record { long = length-10; fits = lit≤ tt }
    ]
