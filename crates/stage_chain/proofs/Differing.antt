-- Names that differ from one another.
use Rattle.plan_num.proofs.Common.{arith, ◌≡◌, ℕ, Bool, true, false, not, List, [], ◌∷◌, ◌++◌}
use Rattle.plan_num.proofs.Common.{filter, refl, sym, ◌∙◌, list_all, bytes_eq, and_parts, and_from}
use Rattle.plan_num.proofs.Common.{not-true, list_all-append, bytes_eq-Decides}
use Rattle.stage_chain.specs.Hand.{is_among}
use Rattle.stage_chain.specs.StageLists.{differing, differs_from}

-- what holds of each of two lists holds of each of both
pub all_both : {X : Type 0} (p : X → Bool) (xs ys : List X) → list_all p xs ≡ true
    → list_all p ys ≡ true → list_all p (xs ++ ys) ≡ true
all_both p xs ys h k = list_all-append p xs ys ∙ and_from _ _ h k

pub all_parts : {X : Type 0} (p : X → Bool) (xs ys : List X) → list_all p (xs ++ ys) ≡ true
    → (list_all p xs ≡ true) × (list_all p ys ≡ true)
all_parts p xs ys h = and_parts _ _ (sym (list_all-append p xs ys) ∙ h)

pub all_filter : {X : Type 0} (p q : X → Bool) (xs : List X) → list_all p xs ≡ true
    → list_all p (filter q xs) ≡ true
all_filter p q [] h = refl
all_filter p q (x ∷ xs) h =
    let parts = and_parts _ _ h in grind (arith, all_filter p q xs parts.1)

-- each of some names differs from each of others
abbrev pub Differ : List (List ℕ) → List (List ℕ) → Type 0
Differ names others = list_all (differs_from others) names ≡ true

pub same_way : (name other : List ℕ) → bytes_eq name other ≡ bytes_eq other name
same_way name other = grind (arith, bytes_eq-Decides)

-- a name that differs from each of some is not among them
pub not_among : (names : List (List ℕ)) (name : List ℕ) → differs_from names name ≡ true
    → is_among name names ≡ false
not_among [] name h = refl
not_among (other ∷ names) name h =
    let parts = and_parts _ _ h in grind (arith, not-true, not_among names name parts.1)

pub none_differ : (names : List (List ℕ)) → Differ names []
none_differ [] = refl
none_differ (name ∷ names) = none_differ names

front_differ : (names others : List (List ℕ)) (other : List ℕ) → differs_from names other ≡ true
    → Differ names others → Differ names (other ∷ others)
front_differ [] others other h k = refl
front_differ (name ∷ names) others other h k =
    let first = and_parts _ _ h in
    let rest = and_parts _ _ k in grind (
      arith,
      and_from,
      same_way,
      front_differ names others other
          first.1 rest.1,
    )

pub differ_swap : (names others : List (List ℕ)) → Differ names others → Differ others names
differ_swap [] others h = none_differ others
differ_swap (name ∷ names) others h =
    let parts = and_parts _ _ h in grind (arith, front_differ, differ_swap names others parts.1)

pub differ_both : (names others more : List (List ℕ)) → Differ names others → Differ names more
    → Differ names (others ++ more)
differ_both names others more h k =
    differ_swap (others ++ more) names
    (all_both (differs_from names) others more (differ_swap names others h) (differ_swap names more k))

-- differing names in two parts: each part differs, and the one from the other
pub record Parts (names others : List (List ℕ)) : Type 0 where
  pub front : differing names ≡ true
  pub back : differing others ≡ true
  pub apart : Differ names others

pub differing_parts : (names others : List (List ℕ)) → differing (names ++ others) ≡ true
    → Parts names others
differing_parts [] others h = record { front = refl; back = h; apart = refl }
differing_parts (name ∷ names) others h =
    let parts = and_parts _ _ h in grind (
      arith,
      all_parts,
      and_from,
      differing_parts names others
          parts.1,
    )

pub parts_differing : (names others : List (List ℕ)) → Parts names others
    → differing (names ++ others) ≡ true
parts_differing [] others h = h.back
parts_differing (name ∷ names) others h =
    let own = and_parts _ _ h.front in
    let out = and_parts _ _ h.apart in grind (
      arith,
      and_from,
      all_both,
      parts_differing names
          others (record { front = own.1; back = h.back; apart = out.1 }),
    )
