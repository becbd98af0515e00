-- Sets of times that rounds make smaller, until one removes nothing.
use Rattle.plan_num.proofs.Common.{◌≡◌, ◌∙◌, ℕ, zero, suc, ◌+◌, ◌<◌, ◌≤◌, nat_eq, Bool, true, false}
use Rattle.plan_num.proofs.Common.{inl, inr, List, [], ◌∷◌, filter, get_or, length, map, refl, ap}
use Rattle.plan_num.proofs.Common.{subst, arith, AllByRecursion, enumerate_from, list_all, eqb-true}
use Rattle.plan_num.proofs.Common.{eqb-false, ltb-true, ltb-false, cases_Bool, sum_by-cons}
use Rattle.plan_num.proofs.Common.{length-filter, count_by-le-length}
use Rattle.pesp.specs.Timetables.{Problem}
use Rattle.pesp.specs.Listings.{several_in}
use Rattle.pesp.specs.TimeSets.{has_partners, left_to, reduced, round, rounds, times_left}

pub filter_short : (test : ℕ → Bool) (xs : List ℕ) → length (filter test xs) ≤ length xs
filter_short test xs = omega (arith, length-filter test xs, count_by-le-length test xs)

filter_all : (test : ℕ → Bool) (xs : List ℕ) → length xs ≤ length (filter test xs)
    → list_all test xs ≡ true
filter_all test [] long = refl
filter_all test (x ∷ xs) long = elim (cases_Bool (test x)) [
  | inl is ↦ rw is (filter_all test xs (omega (arith, rw is at long)))
  | inr is ↦ absurd (omega (arith, rw is at long, filter_short test xs))
]

module _ (problem : Problem) where
  module _ (sets : List (List ℕ)) where
    -- the sets behind a round, where the first of them is that of the event of a number
    abbrev pub rounded : ℕ → List (List ℕ) → List (List ℕ)
    rounded n left = map (λ at. filter (has_partners problem sets at.0) at.1) (enumerate_from n left)

    fewer_times : (n : ℕ) (left : List (List ℕ)) → times_left (rounded n left) ≤ times_left left
    fewer_times n [] = omega arith
    fewer_times n (set ∷ left) =
        omega (
          arith,
          filter_short (has_partners problem sets n) set,
          fewer_times (n + 1) left,
          sum_by-cons (λ (x : ℕ). x) (length set) (map length left),
          sum_by-cons (λ (x : ℕ). x) (length (filter (has_partners problem sets n) set))
              (map length (rounded (n + 1) left)),
        )

    -- where no time is removed, each time has its partners
    all_partnered : (n : ℕ) (left : List (List ℕ)) → times_left left ≤ times_left (rounded n left) → (k : ℕ)
        → k < length left → list_all (has_partners problem sets (n + k)) (get_or left k []) ≡ true
    all_partnered n [] long k inside = absurd (omega (arith, inside))
    all_partnered n (set ∷ left) long k inside =
        let first = sum_by-cons (λ (x : ℕ). x) (length set) (map length left) in
        let second = sum_by-cons (λ (x : ℕ). x) (length (filter (has_partners problem sets n) set))
        (map length (rounded (n + 1) left)) in
        let short = filter_short (has_partners problem sets n) set in
        let rest = fewer_times (n + 1) left in
        one k inside (omega (arith, long, first, second, rest)) (omega (arith, long, first, second, short))
        (all_partnered (n + 1) left)
      where
        one : (k : ℕ) → k < suc (length left) → length set ≤ length (filter (has_partners problem sets n) set)
            → times_left left ≤ times_left (rounded (n + 1) left)
            → (times_left left ≤ times_left (rounded (n + 1) left) → (k : ℕ) → k < length left
            → list_all (has_partners problem sets (n + 1 + k)) (get_or left k []) ≡ true)
            → list_all (has_partners problem sets (n + k)) (get_or (set ∷ left) k []) ≡ true
        one zero inside here there more = grind (arith, filter_all)
        one (suc k) inside here there more = grind (arith, get_or)

    -- what holds of each set and of some of its times holds behind a round
    each_rounded : (P : List ℕ → Type 0) → ((test : ℕ → Bool) (xs : List ℕ) → P xs → P (filter test xs))
        → (n : ℕ) (left : List (List ℕ)) → AllByRecursion P left → AllByRecursion P (rounded n left)
    each_rounded P closed n [] each = tt
    each_rounded P closed n (set ∷ left) each =
        (closed (has_partners problem sets n) set each.0, each_rounded P closed (n + 1) left each.1)

    fewer_several : (n : ℕ) (left : List (List ℕ)) → several_in (rounded n left) ≤ several_in left
    fewer_several n [] = omega arith
    fewer_several n (set ∷ left) = grind (
      arith,
      cases_Bool,
      ltb-true,
      ltb-false,
      filter_short,
      fewer_several (n + 1) left,
    )

    rounded_length : (n : ℕ) (left : List (List ℕ)) → length (rounded n left) ≡ length left
    rounded_length n [] = refl
    rounded_length n (set ∷ left) = ap suc (rounded_length (n + 1) left)

  -- what a round leaves as it is, rounds do
  pub rounds_leave : (P : List (List ℕ) → Type 0) → ((sets : List (List ℕ)) → P sets → P (round problem sets))
      → (more : ℕ) (sets : List (List ℕ)) → P sets → P (rounds more problem sets)
  unfolding rounds
  rounds_leave P one zero sets h = h
  rounds_leave P one (suc more) sets h =
      elim (nat_eq (times_left (round problem sets)) (times_left sets)) as
      (λ b. P (elim b as (λ _. List (List ℕ)) [
        | true ↦ sets
        | false ↦ rounds more problem (round problem sets)
      ])) [
        | true ↦ h
        | false ↦ rounds_leave P one more (round problem sets) (one sets h)
      ]

  -- rounds end where one removes nothing
  abbrev IsStable : List (List ℕ) → Type 0
  IsStable sets = times_left sets ≤ times_left (round problem sets)

  rounds_stable : (more : ℕ) (sets : List (List ℕ)) → times_left sets ≤ more
      → IsStable (rounds more problem sets)
  unfolding rounds
  rounds_stable zero sets few = omega (arith, few)
  rounds_stable (suc more) sets few =
      by (nat_eq (times_left (round problem sets)) (times_left sets)) refl
      (λ few. rounds_stable more (round problem sets) few)
    where
      by : (b : Bool) → nat_eq (times_left (round problem sets)) (times_left sets) ≡ b
          → (times_left (round problem sets) ≤ more → IsStable (rounds more problem (round problem sets)))
          → IsStable (elim b as (λ _. List (List ℕ)) [
            | true ↦ sets
            | false ↦ rounds more problem (round problem sets)
          ])
      by true same rest = grind (arith, eqb-true)
      by false other rest = grind (arith, fewer_times, eqb-false)

  module _ (sets : List (List ℕ)) where
    -- each time that is left has its partners
    pub reduced_partnered : (event : ℕ) → event < length (reduced problem sets)
        → list_all (has_partners problem (reduced problem sets) event) (left_to (reduced problem sets) event) ≡ true
    unfolding reduced
    reduced_partnered event inside =
        let left = reduced problem sets in
        subst (λ m. list_all (has_partners problem left m) (left_to left event) ≡ true) (omega arith)
        (all_partnered left 0 left (rounds_stable (times_left sets) sets (omega arith)) event inside)

    pub reduced_length : length (reduced problem sets) ≡ length sets
    unfolding reduced
    reduced_length = rounds_leave (λ left. length left ≡ length sets)
        (λ left h. rounded_length left 0 left ∙ h) (times_left sets) sets refl

    pub reduced_several : several_in (reduced problem sets) ≤ several_in sets
    unfolding reduced
    reduced_several = rounds_leave (λ left. several_in left ≤ several_in sets)
        (λ left h. omega (arith, h, fewer_several left 0 left)) (times_left sets) sets (omega arith)

    pub reduced_each : (P : List ℕ → Type 0) → ((test : ℕ → Bool) (xs : List ℕ) → P xs → P (filter test xs))
        → AllByRecursion P sets → AllByRecursion P (reduced problem sets)
    unfolding reduced
    reduced_each P closed each = rounds_leave (AllByRecursion P)
        (λ left h. each_rounded left P closed 0 left h) (times_left sets) sets each
