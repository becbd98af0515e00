-- A plan that is chosen is the one that the definition finds among all plans.
use Rattle.plan_num.proofs.Common.{◌≡◌, ℕ, zero, suc, ◌+◌, ◌<◌, ◌≤◌, inl, inr, Bool, true, false}
use Rattle.plan_num.proofs.Common.{cond, not, is_some, ◌&&◌, nat_eq, List, [], ◌∷◌, ◌++◌, length}
use Rattle.plan_num.proofs.Common.{map, filter, find, Option, Some, None, unwrap_or, refl, ap, sym}
use Rattle.plan_num.proofs.Common.{◌∙◌, subst, arith, eqb-true, eq-eqb, AllByRecursion}
use Rattle.plan_num.proofs.Common.{range_with_len, false≢true, none-some}
use Rattle.vehicle_model.specs.Plans.{is_apart, all_lists, all_plans, choices_of, chosen_plan}
use Rattle.vehicle_model.specs.Plans.{least_cost, plan_cost, IsChosen, IsCheapest}
use Rattle.link_plans.proofs.Common.{next, is_next, ComesNoLater, IsPlan, Links, by_number}
use Rattle.link_plans.proofs.Common.{next_found, never_next}
use Rattle.vehicle_model.specs.Trips.{TripsParts, links_of}
use Rattle.vehicle_model.proofs.Following.{links_within}
use Rattle.vehicle_flow.proofs.FirstOfLists.{IsIn, AreChoices, AreRising, find_filtered, first_of}
use Rattle.vehicle_flow.proofs.FirstOfLists.{all_choices, reduced, filtered_all}
use Rattle.plan_num.proofs.Tests.{both_true, second_true, first_true}

-- ---- the choices of a trip

module _ (p : ℕ → Bool) where
  abbrev numbers : ℕ → ℕ → List ℕ
  numbers a k = filter p (range_with_len a k)

  abbrev choices : ℕ → ℕ → List (Option ℕ)
  choices a k = map Some (numbers a k) ++ None ∷ []

  -- none, or one of the numbers from one on that pass
  abbrev IsAbove : ℕ → ℕ → Option ℕ → Type 0
  IsAbove a k None = Unit {0}
  IsAbove a k (Some j) = (a ≤ j) × (j < a + k) × (p j ≡ true)

  wider : (a k : ℕ) (x : Option ℕ) → IsAbove (a + 1) k x → IsAbove a (suc k) x
  wider a k None is = tt
  wider a k (Some j) is = (omega (arith, is.0), omega (arith, is.1), is.2)

  above : (a k : ℕ) (x : Option ℕ) → IsIn (choices a k) x → IsAbove a k x
  above a zero x (inl same) = subst (IsAbove a zero) same tt
  above a zero x (inr never) = elim never [ ]
  above a (suc k) x within = split (p a) refl within (above (a + 1) k)
    where
      split : (b : Bool) → p a ≡ b
          → IsIn (map Some (cond b (a ∷ numbers (a + 1) k) (numbers (a + 1) k)) ++ None ∷ []) x
          → ((y : Option ℕ) → IsIn (choices (a + 1) k) y → IsAbove (a + 1) k y)
          → IsAbove a (suc k) x
      split true is (inl same) rest =
          subst (IsAbove a (suc k)) same (omega arith, omega arith, is)
      split true is (inr more) rest = wider a k x (rest x more)
      split false is more rest = wider a k x (rest x more)

  there : (a k : ℕ) (x : Option ℕ) → IsAbove a k x → IsIn (choices a k) x
  there a zero None is = inl refl
  there a zero (Some j) is = absurd (omega (arith, is.0, is.1))
  there a (suc k) None is = grind (arith, IsIn, there (a + 1) k None tt)
  there a (suc k) (Some j) is = split (p a) refl (λ more. there (a + 1) k (Some j) more)
    where
      split : (b : Bool) → p a ≡ b → (IsAbove (a + 1) k (Some j) → IsIn (choices (a + 1) k) (Some j))
          → IsIn (map Some (cond b (a ∷ numbers (a + 1) k) (numbers (a + 1) k)) ++ None ∷ []) (Some j)
      split true at rest = by_number a j (λ same. inl (ap Some same))
          (λ apart. inr (rest (omega (arith, is.0, apart), omega (arith, is.1), is.2)))
      split false at rest = by_number a j
          (λ same. absurd (false≢true (sym at ∙ ap p same ∙ is.2)))
          (λ apart. rest (omega (arith, is.0, apart), omega (arith, is.1), is.2))

  rising : (a k : ℕ) → AreRising (choices a k)
  rising a zero = ((λ x never later. elim never [ ]), tt)
  rising a (suc k) = split (p a) (rising (a + 1) k)
    where
      later_than : (x : Option ℕ) → IsAbove (a + 1) k x → ComesNoLater x (Some a) → ⊥
      later_than None is later = later
      later_than (Some j) is later = omega (arith, is.0, later)

      split : (b : Bool) → AreRising (choices (a + 1) k)
          → AreRising (map Some (cond b (a ∷ numbers (a + 1) k) (numbers (a + 1) k)) ++ None ∷ [])
      split true rest = ((λ x within later. later_than x (above (a + 1) k x within) later), rest)
      split false rest = rest

-- ---- no trip follows two

abbrev IsOnce : List (Option ℕ) → Type 0
IsOnce plan = (i other j : ℕ) → next plan i ≡ Some j → next plan other ≡ Some j → i ≡ other

rest_once : (x : Option ℕ) (plan : List (Option ℕ)) → IsOnce (x ∷ plan) → IsOnce plan
rest_once x plan once i other j e f = omega (arith, once (suc i) (suc other) j e f)

pub apart_where : (plan : List (Option ℕ)) → IsOnce plan → is_apart plan ≡ true
unfolding is_apart
apart_where [] once = refl
apart_where (None ∷ plan) once = apart_where plan (rest_once None plan once)
apart_where (Some j ∷ plan) once =
    both_true (ap not (never_next plan j (λ i e. absurd (omega (arith, once (suc i) zero j e refl)))))
    (apart_where plan (rest_once (Some j) plan once))

no_next : (i j : ℕ) → next [] i ≡ Some j → ⊥
no_next i j e = none-some j e

once_where : (plan : List (Option ℕ)) → is_apart plan ≡ true → IsOnce plan
unfolding is_apart
once_where [] apart i other j e f = absurd (no_next i j e)
once_where (None ∷ plan) apart zero other j e f = absurd (none-some j e)
once_where (None ∷ plan) apart (suc i) zero j e f = absurd (none-some j f)
once_where (None ∷ plan) apart (suc i) (suc other) j e f =
    ap suc (once_where plan apart i other j e f)
once_where (Some k ∷ plan) apart zero zero j e f = refl
once_where (Some k ∷ plan) apart zero (suc other) j e f =
    absurd (twice k j e (first_true (not (is_next plan k)) _ apart) (next_found plan other j f))
  where
    twice : (k j : ℕ) → Some k ≡ Some j → not (is_next plan k) ≡ true → is_next plan j ≡ true → ⊥
    twice k j same new is = let at : k ≡ j = cc in
        false≢true (sym (ap not (ap (is_next plan) at ∙ is)) ∙ new)
once_where (Some k ∷ plan) apart (suc i) zero j e f = grind (
  arith,
  first_true,
  next_found,
  false≢true,
)
once_where (Some k ∷ plan) apart (suc i) (suc other) j e f =
    ap suc (once_where plan (second_true (not (is_next plan k)) _ apart) i other j e f)

-- ---- the plans of trips

module _ (trips : TripsParts) where
  abbrev links : Links
  links = links_of trips

  abbrev n : ℕ
  n = length trips.trips

  abbrev may : ℕ → ℕ → Bool
  may i j = is_some (links.gain i j)

  abbrev pub lists : ℕ → ℕ → List (List (Option ℕ))
  lists a k = map (choices_of links) (range_with_len a k)

  pub all_rising : (a k : ℕ) → AllByRecursion AreRising (lists a k)
  all_rising a zero = tt
  all_rising a (suc k) = (rising (may a) 0 n, all_rising (a + 1) k)

  record AreNext (a k : ℕ) (plan : List (Option ℕ)) : Type 0 where
    each : length plan ≡ k
    follow : (i j : ℕ) → next plan i ≡ Some j → may (a + i) j ≡ true

  next_where : (a k : ℕ) (plan : List (Option ℕ)) → AreChoices (lists a k) plan → AreNext a k plan
  next_where a zero [] are =
      record { each = refl; follow = λ i j e. absurd (no_next i j e) }
  next_where a zero (x ∷ plan) are = elim are [ ]
  next_where a (suc k) [] are = elim are [ ]
  next_where a (suc k) (x ∷ plan) are =
      let rest = next_where (a + 1) k plan are.1 in
      record { each = ap suc rest.each; follow = λ i j e. at i j rest e }
    where
      first : (j : ℕ) (x : Option ℕ) → x ≡ Some j → IsAbove (may a) 0 n x → may a j ≡ true
      first j x e is = (subst (IsAbove (may a) 0 n) e is).2

      at : (i j : ℕ) → AreNext (a + 1) k plan → next (x ∷ plan) i ≡ Some j → may (a + i) j ≡ true
      at zero j rest e = let same : a ≡ a + zero = omega arith in
          subst (λ k. may k j ≡ true) same (first j x e (above (may a) 0 n x are.0))
      at (suc i) j rest e = let same : a + 1 + i ≡ a + suc i = omega arith in
          subst (λ k. may k j ≡ true) same (rest.follow i j e)

  choices_where : (a k : ℕ) (plan : List (Option ℕ)) → AreNext a k plan
      → AreChoices (lists a k) plan
  choices_where a zero [] are = tt
  choices_where a zero (x ∷ plan) are = absurd (omega (arith, are.each))
  choices_where a (suc k) [] are = absurd (omega (arith, are.each))
  choices_where a (suc k) (x ∷ plan) are = (
    there (may a) 0 n x (first x (λ j e. let same : a + zero ≡ a = omega arith in
        subst (λ k. may k j ≡ true) same (are.follow zero j e))),
    choices_where (a + 1) k plan (record {
      each = omega (arith, are.each);
      follow = λ i j e. let same : a + suc i ≡ a + 1 + i = omega arith in
          subst (λ k. may k j ≡ true) same (are.follow (suc i) j e);
    }),
  )
    where
      first : (x : Option ℕ) → ((j : ℕ) → x ≡ Some j → may a j ≡ true) → IsAbove (may a) 0 n x
      first None is = tt
      first (Some j) is =
          (omega arith, omega (arith, (links_within trips a j (is j refl)).1), is j refl)

  pub plan_where : (plan : List (Option ℕ)) → AreChoices (lists 0 n) plan → is_apart plan ≡ true
      → IsPlan links plan
  plan_where plan are apart =
      let told = next_where 0 n plan are in
      record {
        each = told.each;
        follow = λ i j e. let same : 0 + i ≡ i = omega arith in
            subst (λ k. may k j ≡ true) same (told.follow i j e);
        once = once_where plan apart;
      }

  pub where_plan : (plan : List (Option ℕ)) → IsPlan links plan → AreChoices (lists 0 n) plan
  where_plan plan is = grind (arith, choices_where)

  module _ (plan : List (Option ℕ)) (chosen : IsChosen trips plan) where
    abbrev cost : List (Option ℕ) → ℕ
    cost other = plan_cost trips other

    abbrev costs_least : List (Option ℕ) → Bool
    costs_least other = nat_eq (cost other) (cost plan)

    cheapest_where : (other : List (Option ℕ)) → AreChoices (lists 0 n) other
        → (is_apart other && costs_least other) ≡ true → IsCheapest trips other
    cheapest_where other are passes =
        let same = eqb-true (cost other) (cost plan) (second_true (is_apart other) _ passes) in
        record {
          possible = plan_where other are (first_true (is_apart other) _ passes);
          least = λ third fits. omega (arith, same, chosen.cheapest.least third fits);
        }

    first : find costs_least (all_plans links) ≡ Some plan
    first =
        grind (
          arith,
          find_filtered,
          first_of,
          where_plan,
          both_true,
          apart_where,
          eq-eqb,
          all_rising,
          cheapest_where,
        )

    not_less : (all : List (List (Option ℕ))) → AllByRecursion (AreChoices (lists 0 n)) all
        → AllByRecursion (λ other. is_apart other ≡ true → cost plan ≤ cost other) all
    not_less [] are = tt
    not_less (other ∷ all) are = (
      (λ apart. chosen.cheapest.least other (plan_where other are.0 apart)),
      not_less all are.1,
    )

    least : least_cost trips (all_plans links) ≡ cost plan
    least = ap (λ found. unwrap_or found 0)
        (reduced cost (cost plan) plan (all_plans links)
        (filtered_all (λ other. cost plan ≤ cost other) is_apart (all_lists (lists 0 n))
        (not_less (all_lists (lists 0 n)) (all_choices (lists 0 n)))) first)

    -- it is the first of all plans that costs the least
    pub chosen_is : plan ≡ chosen_plan trips
    unfolding chosen_plan
    chosen_is = sym (ap (λ m. unwrap_or (find (λ other. nat_eq (cost other) m) (all_plans links)) []) least
        ∙ ap (λ found. unwrap_or found []) first)
