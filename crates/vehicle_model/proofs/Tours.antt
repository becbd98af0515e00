-- The tours of a plan: each trip stands in one of them, once, and behind it the one that its vehicle
-- runs next.
use Rattle.plan_num.proofs.Common.{◌≡◌, ◌≢◌, ◌⊎◌, ℕ, zero, suc, ◌+◌, ◌-◌, ◌<◌, ◌≤◌, ◌||◌, ◌&&◌}
use Rattle.plan_num.proofs.Common.{nat_eq, Bool, true, false, not, cond, List, [], ◌∷◌, length, map}
use Rattle.plan_num.proofs.Common.{filter, slice_set, replicate, Option, Some, None, refl, ap, sym}
use Rattle.plan_num.proofs.Common.{◌∙◌, subst, arith, eq-eqb, list_any, list_all, range_with_len}
use Rattle.plan_num.proofs.Common.{false≢true, ne_eqb, or_parts, length-set, length-replicate}
use Rattle.plan_num.proofs.Common.{same_Some}
use Rattle.link_plans.proofs.Common.{next, is_next, IsPlan, count, one_less, count_most, some_of}
use Rattle.link_plans.proofs.Common.{by_number, next_found, followed, none_next, next_is, next_in}
use Rattle.vehicle_model.specs.Schedules.{trip_of, tour, tours}
use Rattle.vehicle_model.specs.Trips.{TripsParts, AreTrips, links_of}
use Rattle.vehicle_model.proofs.Following.{links_within, gain_there, starts_later}
use Rattle.plan_num.proofs.Tests.{both_true, not_both}

-- whether a trip is among some
abbrev pub has : List ℕ → ℕ → Bool
has seen k = list_any (nat_eq k) seen

-- ---- what tours are, one trip after the other

module _ (n : ℕ) (plan : List (Option ℕ)) where
  -- a trip that is there, and not among some
  pub record IsFresh (seen : List ℕ) (i : ℕ) : Type 0 where
    pub within : i < n
    pub new : has seen i ≡ false

  -- the trips behind one are the next ones of the plan, and fresh; what holds of all that were seen then,
  -- and of the links so far as a plan
  abbrev pub AreBehind : (List ℕ → List (Option ℕ) → Type 0) → List ℕ → List (Option ℕ) → ℕ → List ℕ → Type 0
  AreBehind Rest seen linked i [] = Rest seen linked
  AreBehind Rest seen linked i (j ∷ more) = IsFresh seen j × (next plan i ≡ Some j)
      × AreBehind Rest (j ∷ seen) (slice_set linked i (Some j)) j more

  -- tours of fresh trips, that leave none out, and whose links make the plan
  abbrev pub AreTours : List ℕ → List (Option ℕ) → List (List ℕ) → Type 0
  AreTours seen linked [] = (list_all (has seen) (range_with_len 0 n) ≡ true) × (linked ≡ plan)
  AreTours seen linked ([] ∷ more) = ⊥
  AreTours seen linked ((i ∷ trips) ∷ more) = IsFresh seen i
      × AreBehind (λ all links. AreTours all links more) (i ∷ seen) linked i trips

-- ---- they are those of a plan

-- how many trips are left
abbrev left : ℕ → List ℕ → ℕ
left n seen = count (λ k. not (has seen k)) 0 n

-- one trip more is seen
one_left : (n : ℕ) (seen : List ℕ) (i : ℕ) → i < n → has seen i ≡ false
    → left n (i ∷ seen) + 1 ≡ left n seen
one_left n seen i within new = one_less (has seen) i 0 n (omega arith) (omega (arith, within)) new

has_first : (seen : List ℕ) (i : ℕ) → has (i ∷ seen) i ≡ true
has_first seen i = ap (λ b. b || has seen i) (eq-eqb i i refl)

has_other : (seen : List ℕ) (i k : ℕ) → k ≢ i → has (i ∷ seen) k ≡ has seen k
has_other seen i k apart = ap (λ b. b || has seen k) (ne_eqb k i apart)

has_more : (seen : List ℕ) (i k : ℕ) → has seen k ≡ true → has (i ∷ seen) k ≡ true
has_more seen i k h = grind arith

has_cases : {P : Type 0} (seen : List ℕ) (i k : ℕ) → has (i ∷ seen) k ≡ true → (k ≡ i → P) → (has seen k ≡ true → P) → P
has_cases seen i k h same was =
    by_number k i same (λ apart. was (sym (has_other seen i k apart) ∙ h))

by_bool : {P : Type 0} (b : Bool) → (b ≡ true → P) → (b ≡ false → P) → P
by_bool true yes_it no_it = yes_it refl
by_bool false yes_it no_it = no_it refl

-- a tour that goes on
pub tour_first : (plan : List (Option ℕ)) (fuel i : ℕ) → 0 < fuel
    → tour fuel plan (Some i) ≡ i ∷ tour (fuel - 1) plan (next plan i)
unfolding tour
tour_first plan zero i some = absurd (omega (arith, some))
tour_first plan (suc fuel) i some = grind arith

-- what each number of a range passes, all pass
pub all_in_range : (p : ℕ → Bool) (from k : ℕ) → ((i : ℕ) → from ≤ i → i < from + k → p i ≡ true)
    → list_all p (range_with_len from k) ≡ true
all_in_range p from zero each = refl
all_in_range p from (suc k) each = both_true (each from (omega arith) (omega arith))
    (all_in_range p (from + 1) k (λ i low high. each i (omega (arith, low)) (omega (arith, high))))

-- plans that agree at each trip
same_plans : (some other : List (Option ℕ)) → length some ≡ length other
    → ((i : ℕ) → next some i ≡ next other i) → some ≡ other
same_plans [] [] size each = refl
same_plans [] (at ∷ other) size each = absurd (omega (arith, size))
same_plans (at ∷ some) [] size each = absurd (omega (arith, size))
same_plans (at ∷ some) (also ∷ other) size each =
    ap (λ one. one ∷ some) (each 0) ∙ ap (λ rest. also ∷ rest)
    (same_plans some other (omega (arith, size)) (λ i. each (suc i)))

module _ (trips : TripsParts) (plan : List (Option ℕ)) (are : AreTrips trips) (is : IsPlan (links_of trips) plan) where
  abbrev n : ℕ
  n = length plan

  next_within : (i j : ℕ) → next plan i ≡ Some j → (i < n) × (j < n)
  next_within i j e =
      let there = links_within trips i j (is.follow i j e) in grind arith

  later : (i j : ℕ) → next plan i ≡ Some j → (trip_of trips i).start.time < (trip_of trips j).start.time
  later i j e =
      let found = some_of _ (sym (gain_there trips i j) ∙ is.follow i j e) in
      starts_later trips are i j found.0 found.1

  -- all that were seen, and the links so far: each trip comes with the one before it and the one after it
  record IsClosed (seen : List ℕ) (linked : List (Option ℕ)) : Type 0 where
    back : (p j : ℕ) → next plan p ≡ Some j → has seen j ≡ true → has seen p ≡ true
    on : (p j : ℕ) → next plan p ≡ Some j → has seen p ≡ true → has seen j ≡ true
    size : length linked ≡ n
    same : (p : ℕ) → has seen p ≡ true → next linked p ≡ next plan p
    none : (p : ℕ) → has seen p ≡ false → next linked p ≡ None

  -- the same, but for the trip behind one that comes last
  record IsOpen (seen : List ℕ) (linked : List (Option ℕ)) (i : ℕ) : Type 0 where
    within : i < n
    new : has seen i ≡ false
    back : (p j : ℕ) → next plan p ≡ Some j → has seen j ≡ true → has seen p ≡ true
    before : (p : ℕ) → next plan p ≡ Some i → has seen p ≡ true
    on : (p j : ℕ) → next plan p ≡ Some j → has seen p ≡ true → (has seen j ≡ true) ⊎ (j ≡ i)
    size : length linked ≡ n
    same : (p : ℕ) → has seen p ≡ true → next linked p ≡ next plan p
    none : (p : ℕ) → has seen p ≡ false → next linked p ≡ None

  -- a trip that comes first
  opens : (seen : List ℕ) (linked : List (Option ℕ)) (i : ℕ) → IsClosed seen linked → i < n → is_next plan i ≡ false
      → has seen i ≡ false → IsOpen seen linked i
  opens seen linked i closed within first new = grind (arith, not_both, next_found)

  module _ (seen : List ℕ) (linked : List (Option ℕ)) (i : ℕ) (it : IsOpen seen linked i) where
    back_all : (p j : ℕ) → next plan p ≡ Some j → has (i ∷ seen) j ≡ true → has (i ∷ seen) p ≡ true
    back_all p j e h = grind arith

    -- the last one
    closes : next plan i ≡ None → IsClosed (i ∷ seen) linked
    closes last = grind arith

    module _ (j : ℕ) (e : next plan i ≡ Some j) where
      apart : j ≢ i
      apart at = grind (arith, later)

      fresh : has (i ∷ seen) j ≡ false
      fresh = grind arith

      goes_on : IsOpen (i ∷ seen) (slice_set linked i (Some j)) j
      goes_on = record {
        within = (next_within i j e).1;
        new = fresh;
        back = back_all;
        before = λ p f. ap (has (i ∷ seen)) (is.once p i j f e) ∙ has_first seen i;
        on = λ p k f h. grind (arith, has_cases, same_Some, has_more, has_first);
        size = length-set linked i (Some j) ∙ it.size;
        same = λ p h. grind (arith, has_cases, slice_set, next_is, next_in, not_both);
        none = λ p h. grind (arith, or_parts, next_in, not_both, eq-eqb);
      }

  -- a tour from a trip on, where the fuel is enough
  tour_behind : (Rest : List ℕ → List (Option ℕ) → Type 0) (base : ℕ → Bool) (fuel : ℕ) (seen : List ℕ)
      (linked : List (Option ℕ)) (i : ℕ) → IsOpen seen linked i → left n (i ∷ seen) ≤ fuel
      → ((s : ℕ) → is_next plan s ≡ false → has (i ∷ seen) s ≡ base s)
      → ((all : List ℕ) (links : List (Option ℕ)) → IsClosed all links
      → ((s : ℕ) → is_next plan s ≡ false → has all s ≡ base s) → Rest all links)
      → AreBehind n plan Rest (i ∷ seen) linked i (tour fuel plan (next plan i))
  unfolding tour
  tour_behind Rest base zero seen linked i it enough firsts rest =
      ends (next plan i) refl
    where
      ends : (at : Option ℕ) → next plan i ≡ at → Rest (i ∷ seen) linked
      ends None e = rest (i ∷ seen) linked (closes seen linked i it e) firsts
      ends (Some j) e = absurd (omega (
        arith,
        enough,
        one_left n (i ∷ seen) j (next_within i j e).1 (fresh seen linked i it j e),
      ))
  tour_behind Rest base (suc fuel) seen linked i it enough firsts rest =
      step (next plan i) refl (λ j e. tour_behind Rest base fuel (i ∷ seen) (slice_set linked i (Some j)) j
      (goes_on seen linked i it j e)
      (omega (arith, enough, one_left n (i ∷ seen) j (next_within i j e).1 (fresh seen linked i it j e)))
      (λ s h. has_other (i ∷ seen) j s
      (λ at. not_both (next_found plan i j e) (sym (ap (is_next plan) at) ∙ h)) ∙ firsts s h)
      rest)
    where
      step : (at : Option ℕ) → next plan i ≡ at
          → ((j : ℕ) → next plan i ≡ Some j → AreBehind n plan Rest (j ∷ i ∷ seen)
          (slice_set linked i (Some j)) j (tour fuel plan (next plan j)))
          → AreBehind n plan Rest (i ∷ seen) linked i (tour (suc fuel) plan at)
      step None e more = rest (i ∷ seen) linked (closes seen linked i it e) firsts
      step (Some j) e more = (record { within = (next_within i j e).1; new = fresh seen linked i it j e }, e, more j e)

  -- ---- all tours

  -- behind all first trips every trip has come: one that comes first, and one behind another one
  all_there : (seen : List ℕ) (linked : List (Option ℕ)) → IsClosed seen linked
      → ((s : ℕ) → is_next plan s ≡ false → s < n → has seen s ≡ true)
      → (bound i : ℕ) → (trip_of trips i).start.time < bound → i < n → has seen i ≡ true
  all_there seen linked closed firsts zero i soon within = absurd (omega (arith, soon))
  all_there seen linked closed firsts (suc bound) i soon within =
      first_or_not (λ p e. all_there seen linked closed firsts bound p
      (omega (arith, later p i e, soon)) (next_within p i e).0)
    where
      first_or_not : ((p : ℕ) → next plan p ≡ Some i → has seen p ≡ true) → has seen i ≡ true
      first_or_not before = by_bool (is_next plan i)
          (λ h. let found = followed plan i h in grind arith)
          (λ h. firsts i h within)

  new_tours : (from k : ℕ) (seen : List ℕ) (linked : List (Option ℕ)) → from + k ≡ n
      → IsClosed seen linked
      → ((s : ℕ) → is_next plan s ≡ false → s < from → has seen s ≡ true)
      → ((s : ℕ) → is_next plan s ≡ false → from ≤ s → has seen s ≡ false)
      → AreTours n plan seen linked (map (λ first. tour n plan (Some first))
      (filter (λ j. not (is_next plan j)) (range_with_len from k)))
  new_tours from zero seen linked all closed done open_still = (
    all_in_range (has seen) 0 n (λ i low high. all_there seen linked closed
        (λ s h within. done s h (omega (arith, within, all)))
        (suc (trip_of trips i).start.time) i (omega arith) (omega (arith, high))),
    same_plans linked plan closed.size (λ p. by_bool (has seen p) (closed.same p)
        (λ h. closed.none p h ∙ sym (past p h))),
  )
    where
      past : (p : ℕ) → has seen p ≡ false → next plan p ≡ None
      past p h = none_or (next plan p) refl
        where
          none_or : (at : Option ℕ) → next plan p ≡ at → at ≡ None
          none_or None e = refl
          none_or (Some j) e = absurd (not_both (all_there seen linked closed
              (λ s f within. done s f (omega (arith, within, all)))
              (suc (trip_of trips p).start.time) p (omega arith) (next_within p j e).0) h)
  new_tours from (suc k) seen linked all closed done open_still =
      by_bool (is_next plan from)
      (λ h. subst (λ b. AreTours n plan seen linked (map (λ first. tour n plan (Some first))
      (cond (not b) (from ∷ filter (λ j. not (is_next plan j)) (range_with_len (from + 1) k))
      (filter (λ j. not (is_next plan j)) (range_with_len (from + 1) k))))) (sym h)
      (new_tours (from + 1) k seen linked (omega (arith, all)) closed
      (λ s f low. by_number s from (λ at. absurd (not_both (ap (is_next plan) at ∙ h) f))
      (λ apart. done s f (omega (arith, low, apart))))
      (λ s f low. open_still s f (omega (arith, low)))))
      (λ h. subst (λ b. AreTours n plan seen linked (map (λ first. tour n plan (Some first))
      (cond (not b) (from ∷ filter (λ j. not (is_next plan j)) (range_with_len (from + 1) k))
      (filter (λ j. not (is_next plan j)) (range_with_len (from + 1) k))))) (sym h)
      (one_tour h (open_still from h (omega arith))
      (λ seen_all links shut firsts. new_tours (from + 1) k seen_all links (omega (arith, all)) shut
      (λ s f low. firsts s f ∙ by_number s from
      (λ at. ap (has (from ∷ seen)) at ∙ has_first seen from)
      (λ apart. has_more seen from s (done s f (omega (arith, low, apart)))))
      (λ s f low. firsts s f ∙ has_other seen from s (λ at. not_above low at)
      ∙ open_still s f (omega (arith, low))))))
    where
      not_above : {a b : ℕ} → a + 1 ≤ b → b ≡ a → ⊥
      not_above low at = omega (arith, low, at)

      one_tour : is_next plan from ≡ false → has seen from ≡ false
          → ((seen_all : List ℕ) (links : List (Option ℕ)) → IsClosed seen_all links
          → ((s : ℕ) → is_next plan s ≡ false → has seen_all s ≡ has (from ∷ seen) s)
          → AreTours n plan seen_all links (map (λ first. tour n plan (Some first))
          (filter (λ j. not (is_next plan j)) (range_with_len (from + 1) k))))
          → AreTours n plan seen linked (tour n plan (Some from) ∷ map (λ first. tour n plan (Some first))
          (filter (λ j. not (is_next plan j)) (range_with_len (from + 1) k)))
      one_tour h new behind = subst
          (λ (first : List ℕ). AreTours n plan seen linked (first ∷ map (λ first. tour n plan (Some first))
          (filter (λ j. not (is_next plan j)) (range_with_len (from + 1) k))))
          (sym (tour_first plan n from (omega (arith, all)))) (
            record { within = omega (arith, all); new = new },
            tour_behind (λ seen_all links. AreTours n plan seen_all links (map (λ first. tour n plan (Some first))
                (filter (λ j. not (is_next plan j)) (range_with_len (from + 1) k))))
                (has (from ∷ seen)) (n - 1) seen linked from
                (opens seen linked from closed (omega (arith, all)) h new)
                (omega (arith, one_left n seen from (omega (arith, all)) new, count_most (λ j. not (has seen j)) 0 n))
                (λ s f. refl) behind,
          )

  pub tours_are : AreTours n plan [] (replicate n None) (tours plan)
  tours_are = new_tours 0 n [] (replicate n None) (omega arith)
      (record {
        back = λ p j e h. absurd (false≢true h);
        on = λ p j e h. absurd (false≢true h);
        size = length-replicate n None;
        same = λ p h. absurd (false≢true h);
        none = λ p h. none_next n p;
      })
      (λ s h low. absurd (omega (arith, low))) (λ s h low. refl)
