-- The first least path, from the first step to the last: the lowest of the symbols that cost least comes before the first least end after it.
use Rattle.std.proofs.Common.{◌≡◌, ℕ, zero, suc, ◌+◌, ◌<◌, ◌≤◌, inl, inr, List, [], ◌∷◌, ◌++◌, length, take, drop, set, refl, ap, ap₂, sym, subst, ◌∙◌, arith, append_assoc, All}
use Rattle.std.proofs.{lemmas.Bool.{cases_lt}, lemmas.List.{take_more_set}, lemmas.List.Elements.{All-cons, All-nil, All-head, All-tail, All-same}}
use Rattle.p25_bits.specs.Least.{IsLowestLeast}
use Rattle.p25_trellis.specs.{Trellis.{IsPath, IsNotAfter, IsFirstLeast, IsFirstLeastReading}, Costs.{symbols_cost}}
use Rattle.p25_trellis.specs.Least.{rest_in, step_cost, IsEnd, IsLeastEnd, HasLeastFrom}
use Rattle.p25_trellis.proofs.{PathLaws.{same_octets}, CostLaws.{symbols_cost-cons, length-end, HasLeastFrom-later}}

-- the first of the ends that cost least from a state and step on
pub record IsFirstLeastEnd (states before : ℕ) (cost : List ℕ → ℕ) (end : List ℕ) : Type 0 where
  pub is_end : IsEnd states before end
  pub least : (other : List ℕ) → IsEnd states before other → cost end ≤ cost other
  pub first : (other : List ℕ) → IsEnd states before other → cost other ≡ cost end → IsNotAfter end other

-- the only end of the last step is the first least
pub IsFirstLeastEnd-last : (states : ℕ) (cost : List ℕ → ℕ) → IsFirstLeastEnd states 0 cost (0 ∷ [])
IsFirstLeastEnd-last states cost = record {
  is_end = refl;
  least = λ other is. omega (arith, ap cost is);
  first = λ other is same. subst (λ (end : List ℕ). IsNotAfter (0 ∷ []) end) (sym is) (inr (refl, tt));
}

-- the cost of an end that is the first least
least_is : (states : ℕ) (point cost : ℕ → ℕ → ℕ) (rests : List ℕ) (step before state : ℕ) (end : List ℕ)
    → IsLeastEnd states before (symbols_cost point cost step state) (rest_in rests step state)
    → IsFirstLeastEnd states before (symbols_cost point cost step state) end
    → symbols_cost point cost step state end ≡ rest_in rests step state
least_is states point cost rests step before state end rest first = omega (arith, first.least, rest.costs, rest.none_less)

-- the lowest of the symbols that cost least goes before the first least end after it
pub IsFirstLeastEnd-cons : (states : ℕ) (point cost : ℕ → ℕ → ℕ) (rests : List ℕ) (step before state symbol least : ℕ) (end : List ℕ)
    → HasLeastFrom states point cost rests (suc step) → step + suc before ≡ 48
    → IsLowestLeast states (step_cost point cost rests step state) symbol least
    → IsFirstLeastEnd states before (symbols_cost point cost (suc step) symbol) end
    → IsFirstLeastEnd states (suc before) (symbols_cost point cost step state) (symbol ∷ end)
unfolding step_cost
IsFirstLeastEnd-cons states point cost rests step before state symbol least end after place choice rest =
    record { is_end = (choice.below, rest.is_end); least = no_less; first = first_of_all }
  where
    next : suc step + before ≡ 48
    next = omega arith

    there : (y : ℕ) → y < states → IsLeastEnd states before (symbols_cost point cost (suc step) y) (rest_in rests (suc step) y)
    there y row = after.at (suc step) before y (omega arith) next row

    total : symbols_cost point cost step state (symbol ∷ end) ≡ least
    total = omega (
      arith,
      symbols_cost-cons point cost step state symbol end,
      least_is states point cost rests (suc step) before symbol end (there symbol choice.below) rest,
      choice.is,
    )

    no_less : (other : List ℕ) → IsEnd states (suc before) other → symbols_cost point cost step state (symbol ∷ end) ≤ symbols_cost point cost step state other
    no_less [] is = absurd is
    no_less (y ∷ ys) is = omega (arith, total, choice.none_less, (there y is.0).none_less ys is.1, symbols_cost-cons point)

    first_of_all : (other : List ℕ) → IsEnd states (suc before) other → symbols_cost point cost step state other ≡ symbols_cost point cost step state (symbol ∷ end) → IsNotAfter (symbol ∷ end) other
    first_of_all [] is same = absurd is
    first_of_all (y ∷ ys) is same = elim (cases_lt symbol y) [
      | inl lower ↦ inl lower
      | inr not_lower ↦ elim (cases_lt y symbol) [
        | inl higher ↦ absurd (omega (arith, total, same, choice.lowest y higher, (there y is.0).none_less ys is.1, symbols_cost-cons point cost step state y ys))
        | inr not_higher ↦
            let one : y ≡ symbol = omega arith in
            let ends : symbols_cost point cost (suc step) symbol ys ≡ symbols_cost point cost (suc step) symbol end
            = omega (
              arith,
              same,
              symbols_cost-cons point cost step state y ys,
              symbols_cost-cons point cost step state symbol end,
              ap (λ s. cost step (point state s) + symbols_cost point cost (suc step) s ys) one,
            ) in
            inr (sym one, rest.first ys is.1 ends)
      ]
    ]

-- a path is an end with 48 symbols before its 0
IsEnd-from_last : (states before : ℕ) (path : List ℕ) → length path ≡ suc before → All (λ n. n < states) path → drop before path ≡ 0 ∷ [] → IsEnd states before path
IsEnd-from_last states zero path long below last = last
IsEnd-from_last states (suc before) [] long below last = absurd (omega arith)
IsEnd-from_last states (suc before) (symbol ∷ path) long below last =
    let P : ℕ → Type 0 = λ n. n < states in
    (All-head P symbol path below, IsEnd-from_last states before path (omega arith) (All-tail P symbol path below) last)

pub IsEnd-from_path : (states : ℕ) (path : List ℕ) → IsPath states path → IsEnd states 48 path
IsEnd-from_path states path is = IsEnd-from_last states 48 path is.long is.below is.last

drop-end : (states before : ℕ) (path : List ℕ) → IsEnd states before path → drop before path ≡ 0 ∷ []
drop-end states zero path is = is
drop-end states (suc before) [] is = absurd is
drop-end states (suc before) (symbol ∷ path) is = drop-end states before path is.1

All-end : (states before : ℕ) (path : List ℕ) → 0 < states → IsEnd states before path → All (λ n. n < states) path
All-end states zero path some is = let P : ℕ → Type 0 = λ n. n < states in All-same P path _ is (All-cons P 0 [] some (All-nil P))
All-end states (suc before) [] some is = absurd is
All-end states (suc before) (symbol ∷ path) some is = All-cons (λ n. n < states) symbol path is.0 (All-end states before path some is.1)

pub IsPath-from_end : (states : ℕ) (path : List ℕ) → 0 < states → IsEnd states 48 path → IsPath states path
IsPath-from_end states path some is = record {
  long = length-end states 48 path is;
  below = All-end states 48 path some is;
  last = drop-end states 48 path is;
}

-- the first least end from the first step on is the first least path
pub IsFirstLeast-from_end : (states : ℕ) (cost : List ℕ → ℕ) (path : List ℕ) → 0 < states → IsFirstLeastEnd states 48 cost path → IsFirstLeast states cost path
IsFirstLeast-from_end states cost path some is = record {
  is_path = IsPath-from_end states path some is.is_end;
  least = λ other is_path. is.least other (IsEnd-from_path states other is_path);
  first = λ other is_path same. is.first other (IsEnd-from_path states other is_path) same;
}

-- the least cost from the first step is the cost of the first least path
pub IsFirstLeast-total : (states : ℕ) (cost : List ℕ → ℕ) (path : List ℕ) (least : ℕ) → 0 < states → IsLeastEnd states 48 cost least → IsFirstLeast states cost path → least ≡ cost path
IsFirstLeast-total states cost path least some is first = omega (
  arith,
  is.costs,
  is.none_less path (IsEnd-from_path states path first.is_path),
  first.least is.end (IsPath-from_end states is.end some is.is_end),
)

-- one more symbol of the path
pub completes_more : (states : ℕ) (point cost : ℕ → ℕ → ℕ) (rests path : List ℕ) (step state symbol least : ℕ)
    → HasLeastFrom states point cost rests 0 → step < 48 → length path ≡ 49
    → IsLowestLeast states (step_cost point cost rests step state) symbol least
    → ((before : ℕ) (end : List ℕ) → step + before ≡ 48 → IsFirstLeastEnd states before (symbols_cost point cost step state) end
    → IsFirstLeastEnd states 48 (symbols_cost point cost 0 0) (take step path ++ end))
    → (before : ℕ) (end : List ℕ) → step + 1 + before ≡ 48 → IsFirstLeastEnd states before (symbols_cost point cost (step + 1) symbol) end
    → IsFirstLeastEnd states 48 (symbols_cost point cost 0 0) (take (step + 1) (set path step symbol) ++ end)
completes_more states point cost rests path step state symbol least has early long choice so_far before end place rest =
    let inside : step < length path = omega arith in
    let there : step + suc before ≡ 48 = omega arith in
    let more : step + 1 ≡ suc step = omega arith in
    simp (append_assoc, take_more_set) (so_far (suc before)
    (symbol ∷ end) there (IsFirstLeastEnd-cons states point cost rests step before state symbol least end (HasLeastFrom-later states point cost rests 0 (suc step)
    (omega arith) has) there choice (simp more at rest)))

-- two lists of which neither is after the other are one
IsNotAfter-antisym : (xs ys : List ℕ) → IsNotAfter xs ys → IsNotAfter ys xs → xs ≡ ys
IsNotAfter-antisym [] [] one two = refl
IsNotAfter-antisym [] (y ∷ ys) one two = absurd two
IsNotAfter-antisym (x ∷ xs) [] one two = absurd one
IsNotAfter-antisym (x ∷ xs) (y ∷ ys) one two = elim one [
  | inl lower ↦ elim two [ inl higher ↦ absurd (omega arith) | inr same ↦ absurd (omega (arith, same.0)) ]
  | inr same ↦ elim two [
    | inl higher ↦ absurd (omega (arith, same.0))
    | inr equal ↦ ap₂ ◌∷◌ same.0 (IsNotAfter-antisym xs ys same.1 equal.1)
  ]
]

-- there is one first least path
pub same_first_least : (states : ℕ) (cost : List ℕ → ℕ) (path other : List ℕ) → IsFirstLeast states cost path → IsFirstLeast states cost other → path ≡ other
same_first_least states cost path other one two =
    let equal : cost other ≡ cost path = omega (arith, one.least, two.least) in
    IsNotAfter-antisym path other (one.first other two.is_path equal) (two.first path one.is_path (sym equal))

-- there is one decoding
pub same_reading : (states width : ℕ) (cost : List ℕ → ℕ) (octets others : List ℕ) (total other_total : ℕ) → IsFirstLeastReading states width cost octets total
    → IsFirstLeastReading states width cost others other_total → (octets ≡ others) × (total ≡ other_total)
same_reading states width cost octets others total other_total one two =
    let same = same_first_least states cost one.path two.path one.first_least two.first_least in (
      same_octets width one.path octets others one.carries (simp same two.carries),
      one.total_is ∙ ap cost same ∙ sym two.total_is,
    )
