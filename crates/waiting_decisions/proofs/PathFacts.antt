-- The region of a path, change by change.
use Rattle.plan_num.proofs.Common.{take-append_seam, Option, take, ◌-◌, OnOk, OnErr, Result, Ok}
use Rattle.plan_num.proofs.Common.{Err, slice_get, mul-le-mul_left, ◌≤ℤ◌, ◌≡◌, ◌∙◌, ℕ, ℤ, zero, suc}
use Rattle.plan_num.proofs.Common.{◌+◌, ◌*◌, ◌<◌, ◌≤◌, ◌&&◌, ◌||◌, not, cond, eqb, nat_eq, nat_lt}
use Rattle.plan_num.proofs.Common.{Bool, true, false, List, [], ◌∷◌, ◌++◌, length, map, get_or}
use Rattle.plan_num.proofs.Common.{slice_set, pos, ◌+ℤ◌, Some, None, refl, ap, sym, subst, arith}
use Rattle.plan_num.proofs.Common.{inl, inr, drop, position, replicate, zip, enumerate_from}
use Rattle.plan_num.proofs.Common.{list_any, prefix_len, range_with_len, both_ways, eqb-false}
use Rattle.plan_num.proofs.Common.{eqb-true, eq-eqb, ne_eqb, not-true, cases_Bool, cases_lt, ints}
use Rattle.plan_num.proofs.Common.{ext_get_or, get_or-map, get_or-set_other, get_or-set_same}
use Rattle.plan_num.proofs.Common.{length-map, length-replicate, length-set, length_push}
use Rattle.plan_num.proofs.Common.{get_or-map-range_with_len, length-map-range_with_len}
use Rattle.plan_num.proofs.Common.{list_any-append, sum_by-cons}
use Rattle.std.proofs.Math.Bool.{or-false}
use Rattle.delay_trials.specs.declared.decided.Decided.{Decided}
use Rattle.propagation.specs.declared.step.Activity.{Activity}
use Rattle.propagation.proofs.Common.{delay_at, is_broken, DelayProblem}
use Rattle.delay_trials.specs.Trials.{TrialParts, is_decided}
use Rattle.delay_trials.specs.Trials.{first_broken as trial_broken, is_kept as kept_in, times_of as trial_times}
use Rattle.waiting_decisions.specs.declared.decision.Decision.{Decision}
use Rattle.waiting_decisions.specs.declared.decision.Decision.TheVariants as decision
use Rattle.waiting_decisions.specs.Choices.{dropped_count, times_of}
use Rattle.waiting_decisions.specs.Paths.{AreOnce, IsPath, all_but, as_decided, dropped_in, region_in, region_of}
use Rattle.waiting_decisions.specs.Paths.{regions_in, waiting, waiting_in}
use Rattle.waiting_decisions.specs.Regions.{bound_of, decided, first_broken, greatest_set, is_dropped, is_free}
use Rattle.waiting_decisions.specs.Regions.{is_free_at, is_kept, least_set, times_in}
use Rattle.waiting_decisions.specs.declared.cost.TheConstants.{MOST_COST}
use Rattle.plan_num.proofs.Tests.{or_true}

-- ---- what is decided of one change

decision_in : List Decided → ℕ → Decision
decision_in [] change = decision.Free
decision_in (last ∷ before) change =
    cond (eqb last.change change) (as_decided last.kept) (decision_in before change)

pub region_size : (count : ℕ) (path : List Decided) → length (region_of count path) ≡ count
unfolding region_of
region_size count [] = length-replicate count decision.Free
region_size count (last ∷ before) =
    length-set (region_of count before) last.change (as_decided last.kept) ∙ region_size count before

replicated : {X : Type 0} (n k : ℕ) (x d : X) → k < n → get_or (replicate n x) k d ≡ x
replicated zero k x d inside = absurd (omega (arith, inside))
replicated (suc n) zero x d inside = refl
replicated (suc n) (suc k) x d inside = replicated n k x d (omega (arith, inside))

region_at : (count : ℕ) (path : List Decided) (change : ℕ) → change < count
    → get_or (region_of count path) change decision.Dropped ≡ decision_in path change
unfolding region_of decision_in
region_at count [] change inside = replicated count change decision.Free decision.Dropped inside
region_at count (last ∷ before) change inside =
    grind (
      arith,
      cases_Bool,
      eqb-true,
      get_or,
      get_or-set_same,
      region_size,
      get_or-set_other,
      eqb-false,
      region_at count before change inside,
    )

-- what is told of each change of a region
region_mapped : {X : Type 0} (f : Decision → X) (g : ℕ → X) (count : ℕ) (path : List Decided)
    → ((change : ℕ) → change < count → f (decision_in path change) ≡ g change)
    → map f (region_of count path) ≡ map g (range_with_len 0 count)
region_mapped f g count path same =
    let long = length-map (region_of count path) f ∙ region_size count path in
    let size = length-map-range_with_len g 0 count in
    ext_get_or (f decision.Dropped) (map f (region_of count path)) (map g (range_with_len 0 count))
    (long ∙ sym size)
    (λ k within.
    let inside : k < count = omega (arith, within, long) in
    let here : 0 + k ≡ k = omega arith in
    get_or-map f (region_of count path) k decision.Dropped (f decision.Dropped)
    (omega (arith, inside, region_size count path))
    ∙ ap f (region_at count path k inside) ∙ same k inside
    ∙ sym (get_or-map-range_with_len g 0 count k k (f decision.Dropped) inside here))

-- ---- what is told of a path

free_same : (path : List Decided) (change : ℕ) → is_free (decision_in path change) ≡ not (is_decided path change)
unfolding decision_in
free_same [] change = refl
free_same (last ∷ before) change = grind (arith, decision_in, free_same before change)

kept_same : (count : ℕ) (path : List Decided) → AreOnce count path → (change : ℕ)
    → is_kept (decision_in path change) ≡ kept_in path change
unfolding decision_in AreOnce
kept_same count [] once change = refl
kept_same count (last ∷ before) once change =
    elim (cases_Bool (eqb last.change change)) [
      | inl is ↦
          let none = not_kept before change (subst (λ k. is_decided before k ≡ false)
          (eqb-true last.change change is) once.1) in
          elim (cases_Bool last.kept) [
            | inl keeps ↦ rw (is, keeps) refl
            | inr drops ↦ rw (is, drops) (sym none)
          ]
      | inr is ↦ rw is (kept_same count before once.2 change)
    ]
  where
    not_kept : (path : List Decided) (change : ℕ) → is_decided path change ≡ false → kept_in path change ≡ false
    not_kept [] change none = refl
    not_kept (last ∷ before) change none = elim (cases_Bool (eqb last.change change)) [
      | inl is ↦ absurd (both_ways true (rw is at none) refl)
      | inr is ↦ rw is (not_kept before change (rw is at none))
    ]

-- a change that is not decided is not dropped
not_dropped : (path : List Decided) (change : ℕ) → is_decided path change ≡ false
    → list_any (nat_eq change) (dropped_in path) ≡ false
unfolding dropped_in
not_dropped [] change none = refl
not_dropped (last ∷ before) change none =
    elim (cases_Bool (eqb last.change change)) [
      | inl is ↦ absurd (both_ways true (rw is at none) refl)
      | inr is ↦ grind (
        arith,
        cases_Bool,
        list_any-append,
        nat_eq,
        ne_eqb,
        eqb-false,
        not_dropped
            before change (rw is at none),
      )
    ]

dropped_same : (count : ℕ) (path : List Decided) → AreOnce count path → (change : ℕ)
    → is_dropped (decision_in path change) ≡ list_any (nat_eq change) (dropped_in path)
unfolding decision_in AreOnce dropped_in
dropped_same count [] once change = refl
dropped_same count (last ∷ before) once change =
    grind (
      arith,
      list_any-append,
      nat_eq,
      cases_Bool,
      eqb-true,
      not_dropped,
      eq-eqb,
      ne_eqb,
      eqb-false,
      or-false,
      dropped_same count before once.2 change,
    )

-- ---- what is told of a region

pub least_is : (count : ℕ) (path : List Decided) → AreOnce count path
    → least_set (region_of count path) ≡ map (kept_in path) (range_with_len 0 count)
least_is count path once =
    region_mapped is_kept (kept_in path) count path (λ change inside. kept_same count path once change)

pub greatest_is : (count : ℕ) (path : List Decided) → AreOnce count path
    → all_but count (dropped_in path) ≡ greatest_set (region_of count path)
greatest_is count path once = grind (arith, region_mapped, nat_eq, dropped_same)

pub free_is : (count : ℕ) (path : List Decided) (change : ℕ) → change < count
    → is_free_at (region_of count path) change ≡ not (is_decided path change)
free_is count path change inside = ap is_free (region_at count path change inside) ∙ free_same path change

past_all : (region : List Decision) (change : ℕ) → length region ≤ change
    → get_or region change decision.Dropped ≡ decision.Dropped
past_all [] change past = refl
past_all (at ∷ region) zero past = absurd (omega (arith, past))
past_all (at ∷ region) (suc change) past = past_all region change (omega (arith, past))

-- a free change is there, and it is not decided
pub not_free : (count : ℕ) (path : List Decided) (change : ℕ) → count ≤ change
    → is_free_at (region_of count path) change ≡ false
not_free count path change past =
    ap is_free (past_all (region_of count path) change (omega (arith, past, region_size count path)))

pub free_there : (count : ℕ) (path : List Decided) (change : ℕ)
    → is_free_at (region_of count path) change ≡ true
    → (change < count) × (is_decided path change ≡ false)
free_there count path change free = grind (arith, cases_lt, not-true, free_is, both_ways, not_free)

-- how many changes are dropped
count_set : (region : List Decision) (change : ℕ) (kept : Bool) → is_free_at region change ≡ true
    → dropped_count (greatest_set (decided region change (as_decided kept)))
    ≡ dropped_count (greatest_set region) + cond kept 0 1
count_set [] change kept free = absurd (both_ways false refl free)
count_set (at ∷ region) zero kept free =
    let one = count_cons (not (is_dropped (as_decided kept))) (greatest_set region) in
    let two = count_cons (not (is_dropped at)) (greatest_set region) in
    by at kept free one two
  where
    count_cons : (is : Bool) (kept : List Bool)
        → dropped_count (is ∷ kept) ≡ cond {A = ℕ} (not is) 1 0 + dropped_count kept
    count_cons is kept = sum_by-cons (λ x. cond (not x) 1 0) is kept

    by : (at : Decision) (kept : Bool) → is_free at ≡ true
        → dropped_count (not (is_dropped (as_decided kept)) ∷ greatest_set region)
        ≡ cond {A = ℕ} (not (not (is_dropped (as_decided kept)))) 1 0 + dropped_count (greatest_set region)
        → dropped_count (not (is_dropped at) ∷ greatest_set region)
        ≡ cond {A = ℕ} (not (not (is_dropped at))) 1 0 + dropped_count (greatest_set region)
        → dropped_count (not (is_dropped (as_decided kept)) ∷ greatest_set region)
        ≡ dropped_count (not (is_dropped at) ∷ greatest_set region) + cond kept 0 1
    by decision.Free true free one two = omega (arith, one, two)
    by decision.Free false free one two = omega (arith, one, two)
    by decision.Kept kept free one two = absurd (both_ways false refl free)
    by decision.Dropped kept free one two = absurd (both_ways false refl free)
count_set (at ∷ region) (suc change) kept free =
    let rest = count_set region change kept free in
    let one = sum_by-cons (λ x. cond {A = ℕ} (not x) 1 0) (not (is_dropped at))
    (greatest_set (decided region change (as_decided kept))) in
    let two = sum_by-cons (λ x. cond {A = ℕ} (not x) 1 0) (not (is_dropped at)) (greatest_set region) in
    omega (arith, rest, one, two)

count_none : (n : ℕ) → dropped_count (greatest_set (replicate n decision.Free)) ≡ 0
count_none zero = refl
count_none (suc n) = grind (arith, sum_by-cons, count_none n)

pub count_is : (count : ℕ) (path : List Decided) → AreOnce count path
    → dropped_count (greatest_set (region_of count path)) ≡ length (dropped_in path)
unfolding region_of AreOnce dropped_in
count_is count [] once = count_none count
count_is count (last ∷ before) once =
    grind (arith, free_is, count_set, cases_Bool, length_push, count_is count before once.2)

-- ---- the times, the bound and the change that is broken

prefix_alike : {X Y : Type 0} (test : X → Bool) (other : Y → Bool) (xs : List X) (ys : List Y)
    → map test xs ≡ map other ys → prefix_len (λ x. not (test x)) xs ≡ prefix_len (λ y. not (other y)) ys
prefix_alike test other [] [] same = refl
prefix_alike test other [] (y ∷ ys) same = absurd (omega (arith, ap length same))
prefix_alike test other (x ∷ xs) [] same = absurd (omega (arith, ap length same))
prefix_alike test other (x ∷ xs) (y ∷ ys) same =
    grind (arith, get_or, prefix_alike test other xs ys (ap (drop 1) same))

pub position_alike : {X Y : Type 0} (test : X → Bool) (other : Y → Bool) (xs : List X) (ys : List Y)
    → map test xs ≡ map other ys → position test xs ≡ position other ys
position_alike test other xs ys same = grind (arith, prefix_alike, length-map, nat_lt)

module _ (path : TrialParts) (once : AreOnce (length path.problem.changes) path.decided) where
  abbrev count : ℕ
  count = length path.problem.changes

  times_are : times_in path.problem (region_in path) ≡ trial_times path
  times_are = ap (times_of path.problem) (least_is count path.decided once)

  pub bound_is : (penalty : ℕ) (delay : ℤ) → delay ≡ delay_at path.problem.events (trial_times path)
      → delay +ℤ pos (penalty * length (dropped_in path.decided)) ≡ bound_of path.problem penalty (region_in path)
  bound_is penalty delay is = grind (arith, times_are, count_is)

  -- tests of changes with their regions, and with their indexes
  tests_alike : (times : List ℕ) (region : List Decision) (changes : List Activity) (first : ℕ)
      → length region ≡ length changes
      → ((k : ℕ) → k < length changes → is_free (get_or region k decision.Dropped)
      ≡ not (is_decided path.decided (first + k)))
      → map (λ at. is_free at.0 && is_broken times at.1) (zip region changes)
      ≡ map (λ at. not (is_decided path.decided at.0) && is_broken times at.1) (enumerate_from first changes)
  tests_alike times [] [] first size same = refl
  tests_alike times [] (change ∷ changes) first size same = absurd (omega (arith, size))
  tests_alike times (at ∷ region) [] first size same = absurd (omega (arith, size))
  tests_alike times (at ∷ region) (change ∷ changes) first size same =
      let here : first + 0 ≡ first = omega arith in grind (
        arith,
        tests_alike times region changes
            (first + 1) (omega (arith, size)) (λ k inside. let next : first + suc k ≡ (first + 1) + k
            = omega arith in same (suc k) (omega (arith, inside)) ∙ ap (λ k. not (is_decided
            path.decided k)) next),
      )

  pub broken_is : trial_broken path ≡ first_broken path.problem (region_in path)
  broken_is =
      let times = trial_times path in
      position_alike (λ at. not (is_decided path.decided at.0) && is_broken times at.1)
      (λ at. is_free at.0 && is_broken times at.1)
      (enumerate_from 0 path.problem.changes) (zip (region_in path) path.problem.changes)
      (sym (tests_alike times (region_in path) path.problem.changes 0 (region_size count path.decided)
      (λ k inside. let here : 0 + k ≡ k = omega arith in
      free_is count path.decided k inside ∙ ap (λ k. not (is_decided path.decided k)) (sym here))))
      ∙ ap (λ times. position (λ at. is_free at.0 && is_broken times at.1) (zip (region_in path) path.problem.changes))
      (sym times_are)

  count_within : (region : List Decision) → dropped_count (greatest_set region) ≤ length region
  count_within [] = omega arith
  count_within (at ∷ region) =
      let rest = count_within region in
      let one = sum_by-cons (λ x. cond {A = ℕ} (not x) 1 0) (not (is_dropped at)) (greatest_set region) in
      by (not (not (is_dropped at))) rest one
    where
      by : (b : Bool) → dropped_count (greatest_set region) ≤ length region
          → dropped_count (not (is_dropped at) ∷ greatest_set region)
          ≡ cond {A = ℕ} b 1 0 + dropped_count (greatest_set region)
          → dropped_count (not (is_dropped at) ∷ greatest_set region) ≤ suc (length region)
      by true rest one = omega (arith, rest, one)
      by false rest one = omega (arith, rest, one)

  -- no more changes are dropped than there are
  pub few_dropped : length (dropped_in path.decided) ≤ count
  few_dropped = grind (arith, count_within, count_is, region_size)

pub bound_most : (delay bound : ℤ) (penalty dropped count : ℕ) → delay +ℤ pos (penalty * dropped) ≡ bound
    → delay ≤ℤ pos 60000000000000000 → dropped ≤ count → count ≤ 502000 → penalty ≤ 1000000
    → bound ≤ℤ pos MOST_COST
bound_most delay bound penalty dropped count is late few all small =
    grind (arith, mul-le-mul_left, ints)

pub bound_least : (delay bound : ℤ) (penalty dropped : ℕ) → delay +ℤ pos (penalty * dropped) ≡ bound
    → pos 0 ≤ℤ delay → pos 0 ≤ℤ bound
bound_least delay bound penalty dropped is least = omega (arith, ints, is, least)

-- ---- the steps of a path

module _ (path : TrialParts) (dropped : List ℕ) (is : IsPath path dropped) where
  abbrev with_one : ℕ → Bool → TrialParts
  with_one change kept = record path { decided = record { change = change; kept = kept } ∷ path.decided }

  once_more : (change : ℕ) (kept : Bool) → is_free_at (region_in path) change ≡ true
      → AreOnce (length path.problem.changes) (record { change = change; kept = kept } ∷ path.decided)
  unfolding AreOnce
  once_more change kept free = grind (arith, free_there)

  pub kept_on : (change : ℕ) → is_free_at (region_in path) change ≡ true → IsPath (with_one change true) dropped
  unfolding dropped_in
  kept_on change free = record { once = once_more change true free; drops = is.drops }

  pub dropped_on : (change : ℕ) → is_free_at (region_in path) change ≡ true
      → IsPath (with_one change false) (dropped ++ change ∷ [])
  unfolding dropped_in
  dropped_on change free = grind (arith, once_more)

-- what holds of a path that was changed, or else left as it was
pub changed_or : {A E : Type 0} (P : TrialParts → Type 0) (result : Result A E) (old fine new : TrialParts)
    → OnOk result (new ≡ fine) → OnErr result (new ≡ old) → P fine → P old → P new
changed_or P (Ok value) old fine new ok err changed left = subst P (sym ok) changed
changed_or P (Err error) old fine new ok err changed left = subst P (sym err) left

-- taking the last decision back
taken_by : (problem : DelayProblem) (last : Decided) (dropped less : List ℕ) (path : List Decided)
    → AreOnce (length problem.changes) path → dropped ≡ dropped_in path → Some last ≡ slice_get path 0
    → (last.kept ≡ true → less ≡ dropped)
    → (last.kept ≡ false → (x : ℕ) (xs : List ℕ) → dropped ≡ xs ++ x ∷ [] → less ≡ xs)
    → IsPath (record { problem = problem; decided = drop 1 path }) less
    × (is_free_at (region_of (length problem.changes) (drop 1 path)) last.change ≡ true)
unfolding AreOnce dropped_in
taken_by problem last dropped less [] once drops at same fewer = absurd (cc)
taken_by problem last dropped less (first ∷ before) once drops at same fewer =
    grind (arith, free_is)

module _ (path after : TrialParts) (last : Decided) (dropped less : List ℕ) (is : IsPath path dropped)
    (found : Option Decided) (first : found ≡ slice_get path.decided 0) (at : found ≡ Some last)
    (rest : after ≡ record path { decided = drop 1 path.decided })
    (same : last.kept ≡ true → less ≡ dropped)
    (fewer : last.kept ≡ false → (x : ℕ) (xs : List ℕ) → dropped ≡ xs ++ x ∷ [] → less ≡ xs) where
  both : IsPath (record path { decided = drop 1 path.decided }) less
      × (is_free_at (region_of (length path.problem.changes) (drop 1 path.decided)) last.change ≡ true)
  both = taken_by path.problem last dropped less path.decided is.once is.drops (sym at ∙ first) same fewer

  pub still_path : IsPath after less
  still_path = subst (λ path. IsPath path less) (sym rest) both.0

  pub then_free : is_free_at (region_in after) last.change ≡ true
  then_free = subst (λ path. is_free_at (region_in path) last.change ≡ true) (sym rest) both.1

-- the last of some numbers is taken
pub popped : (dropped less : List ℕ) (size : ℕ) → size ≡ length dropped → less ≡ take (size - 1) dropped
    → (x : ℕ) (xs : List ℕ) → dropped ≡ xs ++ x ∷ [] → less ≡ xs
popped dropped less size same is x xs all =
    let long : length dropped ≡ length xs + 1 = ap length all ∙ length_push xs x in
    let fewer : size - 1 ≡ length xs = omega (arith, same, long) in
    is ∙ (λ i. take (fewer i) (all i)) ∙ take-append_seam xs (x ∷ [])

-- ---- going on

module _ (path after : TrialParts) (found : Option Decided) (first : found ≡ slice_get path.decided 0)
    (rest : after ≡ record path { decided = drop 1 path.decided }) where
  goes_by : (n : ℕ) (last : Decided) (decided : List Decided) → Some last ≡ slice_get decided 0 → last.kept ≡ true
      → (region_of n (record { change = last.change; kept = false } ∷ drop 1 decided)
      ∷ waiting n (record { change = last.change; kept = false } ∷ drop 1 decided)) ≡ waiting n decided
  unfolding region_of waiting
  goes_by n last [] at kept = absurd (cc)
  goes_by n last (one ∷ before) at kept = grind arith

  passes_by : (n : ℕ) (last : Decided) (decided : List Decided) → Some last ≡ slice_get decided 0 → last.kept ≡ false
      → waiting n (drop 1 decided) ≡ waiting n decided
  unfolding waiting
  passes_by n last [] at kept = absurd (cc)
  passes_by n last (one ∷ before) at kept = grind arith

  ends_by : (n : ℕ) (decided : List Decided) → None ≡ slice_get decided 0 → waiting n decided ≡ []
  unfolding waiting
  ends_by n [] at = refl
  ends_by n (one ∷ before) at = absurd (cc)

  pub went_on : (last : Decided) (end : TrialParts) → found ≡ Some last → last.kept ≡ true
      → end ≡ record after { decided = record { change = last.change; kept = false } ∷ after.decided }
      → (end.problem ≡ path.problem) × (regions_in end ≡ waiting_in path)
  went_on last end at kept is = grind (arith, goes_by)

  pub passed_by : (last : Decided) → found ≡ Some last → last.kept ≡ false
      → (after.problem ≡ path.problem) × (waiting_in after ≡ waiting_in path)
  passed_by last at kept = grind (arith, passes_by)

  pub ended : found ≡ None → (after.problem ≡ path.problem) × (waiting_in path ≡ [])
  ended at = grind (arith, ends_by)

-- ---- changes that are dropped one after the other

pub none_dropped : (count : ℕ) → replicate count true ≡ all_but count []
none_dropped count =
    ext_get_or true (replicate count true) (all_but count [])
    (length-replicate count true ∙ sym (length-map-range_with_len all_kept 0 count))
    (λ k within.
    let inside : k < count = omega (arith, within, length-replicate count true) in
    let here : 0 + k ≡ k = omega arith in
    replicated count k true true inside ∙ sym (get_or-map-range_with_len all_kept 0 count k k true inside here))
  where
    all_kept : ℕ → Bool
    all_kept change = true

pub one_dropped : (count : ℕ) (dropped : List ℕ) (change : ℕ)
    → slice_set (all_but count dropped) change false ≡ all_but count (dropped ++ change ∷ [])
one_dropped count dropped change =
    let f = λ (k : ℕ). not (list_any (nat_eq k) dropped) in
    let g = λ (k : ℕ). not (list_any (nat_eq k) (dropped ++ change ∷ [])) in
    let long = length-map-range_with_len f 0 count in
    let size = length-set (all_but count dropped) change false ∙ long in
    ext_get_or true (slice_set (all_but count dropped) change false) (all_but count (dropped ++ change ∷ []))
    (size ∙ sym (length-map-range_with_len g 0 count))
    (λ k within.
    let inside : k < count = omega (arith, within, size) in
    let here : 0 + k ≡ k = omega arith in
    let more = list_any-append (nat_eq k) dropped (change ∷ []) in
    let new = get_or-map-range_with_len g 0 count k k true inside here in
    let old = get_or-map-range_with_len f 0 count k k true inside here in
    elim (eqb k change) as (λ b. eqb k change ≡ b
    → get_or (slice_set (all_but count dropped) change false) k true
    ≡ get_or (all_but count (dropped ++ change ∷ [])) k true) [
      | true ↦ λ is. let same = eqb-true k change is in
          ap (λ j. get_or (slice_set (all_but count dropped) j false) k true) (sym same)
          ∙ get_or-set_same (all_but count dropped) k false true (omega (arith, inside, long))
          ∙ sym (new ∙ ap not (more ∙ ap (λ b. list_any (nat_eq k) dropped || (b || false)) is
          ∙ or_true (list_any (nat_eq k) dropped)))
      | false ↦ λ is.
          get_or-set_other (all_but count dropped) change k false true (λ e. eqb-false k change is e)
          ∙ old ∙ sym (new ∙ ap not (more ∙ ap (λ b. list_any (nat_eq k) dropped || (b || false)) is
          ∙ or-false (list_any (nat_eq k) dropped)))
    ] refl)
