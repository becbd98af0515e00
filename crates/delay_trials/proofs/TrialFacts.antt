-- Decisions one after the other, and the least times behind each.
use Rattle.plan_num.proofs.Common.{◌≢◌, ◌≡◌, ◌∙◌, ℕ, zero, suc, ◌+◌, ◌<◌, ◌≤◌, ◌&&◌, ◌||◌, not}
use Rattle.plan_num.proofs.Common.{cond, eqb, nat_lt, Bool, true, false, List, [], ◌∷◌, ◌++◌}
use Rattle.plan_num.proofs.Common.{length, map, get_or, slice_set, All, Some, None, refl, ap, sym}
use Rattle.plan_num.proofs.Common.{subst, arith, position, replicate, reverse, enumerate_from}
use Rattle.plan_num.proofs.Common.{prefix_len, range_with_len, both_ways, eq-eqb, ne_eqb, ltb-true}
use Rattle.plan_num.proofs.Common.{ltb-false, lt-ltb, le-ltb, reverse-append}
use Rattle.plan_num.proofs.Common.{get_or-map-range_with_len, length-enumerate_from}
use Rattle.plan_num.proofs.Common.{length-map-range_with_len}
use Rattle.delay_trials.specs.declared.decided.Decided.{Decided}
use Rattle.propagation.specs.declared.step.Activity.{Activity}
use Rattle.propagation.proofs.Common.{IsLeast, least_times, DelayProblem, IsForward, is_broken}
use Rattle.propagation.proofs.Common.{chosen_changes, chosen_are_changes, placed_at, told_alike}
use Rattle.propagation.proofs.Common.{least_times_are_least}
use Rattle.delay_trials.specs.OnTrial.{AreOnce, IsTrial, kept_flags, open_flags}
use Rattle.delay_trials.specs.Trials.{TrialParts, first_broken, is_decided, is_kept, kept_of, times_of}
use Rattle.bit_rows.proofs.Places.{told_anew}

-- ---- lists from behind

pub reversed : {X : Type 0} (xs : List X) (x : X) → reverse (xs ++ x ∷ []) ≡ x ∷ reverse xs
reversed xs x = reverse-append xs (x ∷ [])

pub none_flags : (a n : ℕ) → replicate n false ≡ map (is_kept []) (range_with_len a n)
none_flags a zero = refl
none_flags a (suc n) = ap (λ some. false ∷ some) (none_flags (a + 1) n)

-- ---- which changes are kept

module _ (count : ℕ) where
  abbrev flags : List Decided → List Bool
  flags decided = map (is_kept decided) (range_with_len 0 count)

  pub kept_more : (decided : List Decided) (last : Decided) → last.kept ≡ true
      → (old : List Bool) → old ≡ flags decided → slice_set old last.change true ≡ flags (last ∷ decided)
  kept_more decided last kept old is =
      ap (λ some. slice_set some last.change true) is
      ∙ elim (nat_lt last.change count) as (λ b. nat_lt last.change count ≡ b
      → slice_set (flags decided) last.change true ≡ flags (last ∷ decided)) [
        | true ↦ λ less.
            let zeroed : 0 + last.change ≡ last.change = omega arith in grind (
              arith,
              told_anew,
              ltb-true,
              zeroed,
              eq-eqb,
            )
        | false ↦ λ past.
            set_past (flags decided) last.change true
            (let long = length-map-range_with_len (is_kept decided) 0 count in
            let most : count ≤ last.change = ltb-false last.change count past in omega (arith, long, most))
            ∙ told_alike (is_kept decided) (is_kept (last ∷ decided)) count
            (λ k inside. sym (passes k (λ same. let most : count ≤ last.change = ltb-false last.change count past in
            omega (arith, most, inside, same))))
      ] refl
    where
      passes : (k : ℕ) → k ≢ last.change → is_kept (last ∷ decided) k ≡ is_kept decided k
      passes k other = ap (λ b. (b && last.kept) || is_kept decided k) (ne_eqb last.change k (λ e. other (sym e)))

      set_past : (xs : List Bool) (i : ℕ) (x : Bool) → length xs ≤ i → slice_set xs i x ≡ xs
      set_past [] i x past = refl
      set_past (y ∷ xs) zero x past = absurd (omega (arith, past))
      set_past (y ∷ xs) (suc i) x past = ap (λ some. y ∷ some) (set_past xs i x (omega (arith, past)))

  pub kept_same : (decided : List Decided) (last : Decided) → last.kept ≡ false → flags decided ≡ flags (last ∷ decided)
  kept_same decided last out = grind (arith, told_alike)

-- ---- which changes are not decided

pub all_open : (a n : ℕ) → replicate n true ≡ map (λ change. not (is_decided [] change)) (range_with_len a n)
all_open a zero = refl
all_open a (suc n) = ap (λ some. true ∷ some) (all_open (a + 1) n)

pub not_kept : (decided : List Decided) (change : ℕ) → is_decided decided change ≡ false
    → is_kept decided change ≡ false
not_kept [] change none = refl
not_kept (last ∷ before) change none = by (eqb last.change change) last.kept none (not_kept before change)
  where
    by : (b kept : Bool) → (b || is_decided before change) ≡ false
        → (is_decided before change ≡ false → is_kept before change ≡ false)
        → ((b && kept) || is_kept before change) ≡ false
    by true kept none rest = absurd (both_ways true none refl)
    by false kept none rest = rest none

module _ (count : ℕ) (decided : List Decided) (last : Decided) (there : last.change < count) where
  kept_apart : (k : ℕ) → k ≢ last.change → is_kept (last ∷ decided) k ≡ is_kept decided k
  kept_apart k other = ap (λ b. (b && last.kept) || is_kept decided k) (ne_eqb last.change k (λ e. other (sym e)))

  apart : (k : ℕ) → k ≢ last.change → not (is_decided (last ∷ decided) k) ≡ not (is_decided decided k)
  apart k other = ap (λ b. not (b || is_decided decided k)) (ne_eqb last.change k (λ e. other (sym e)))

  zeroed : 0 + last.change ≡ last.change
  zeroed = omega arith

  at_zero : {X : Type 0} (f g : ℕ → X) → ((k : ℕ) → k ≢ last.change → f k ≡ g k) → (k : ℕ) → k ≢ last.change
      → f (0 + k) ≡ g (0 + k)
  at_zero f g same k other = let here : 0 + k ≡ k = omega arith in ap f here ∙ same k other ∙ ap g (sym here)

  -- the flags before the last decision
  pub kept_less : is_decided decided last.change ≡ false
      → slice_set (kept_flags count (last ∷ decided)) last.change false ≡ kept_flags count decided
  kept_less none = grind (arith, told_anew, zeroed, not_kept, at_zero, kept_apart)

  pub open_more : is_decided decided last.change ≡ false
      → slice_set (open_flags count (last ∷ decided)) last.change true ≡ open_flags count decided
  open_more none = grind (arith, told_anew, zeroed, at_zero, apart)

  -- the flags behind one decision more
  pub open_less : slice_set (open_flags count decided) last.change false ≡ open_flags count (last ∷ decided)
  open_less = grind (arith, told_anew, zeroed, eq-eqb, at_zero, apart)

-- ---- decisions on trial

module _ (problem : DelayProblem) where
  abbrev n : ℕ
  n = length problem.changes

  pub least_each : IsForward problem → (kept : List Bool) (times : List ℕ)
      → times ≡ least_times problem (chosen_changes problem kept) → length times ≡ length problem.events
  least_each forward kept times is = grind (arith, least_times_are_least, chosen_are_changes)

  pub starts : (kept open_yet : List Bool) (times : List ℕ) → kept ≡ replicate n false → open_yet ≡ replicate n true
      → length times ≡ length problem.events
      → times ≡ least_times problem (chosen_changes problem kept) → All (λ time. time ≤ 600000000000) times
      → IsTrial problem [] kept open_yet times
  unfolding AreOnce
  starts kept open_yet times none all each least small = record {
    each = each;
    once = tt;
    flags = none ∙ none_flags 0 n;
    undecided = all ∙ all_open 0 n;
    told = least ∙ ap (λ some. least_times problem (chosen_changes problem some)) (none ∙ none_flags 0 n);
    small = small;
  }

  module _ (decided : List Decided) (kept open_yet : List Bool) (times : List ℕ)
      (is : IsTrial problem decided kept open_yet times) where
    pub kept_on : (change : ℕ) → change < n → is_decided decided change ≡ false
        → (kept_now open_now : List Bool) (now : List ℕ) → kept_now ≡ slice_set kept change true
        → open_now ≡ slice_set open_yet change false → IsForward problem
        → now ≡ least_times problem (chosen_changes problem kept_now)
        → All (λ time. time ≤ 600000000000) now
        → IsTrial problem (record { change = change; kept = true } ∷ decided) kept_now open_now now
    unfolding AreOnce
    kept_on change there none kept_now open_now now one two forward least small =
        let last : Decided = record { change = change; kept = true } in
        let flags = one ∙ kept_more n decided last refl kept is.flags in
        record {
          once = (there, none, is.once);
          flags = flags;
          undecided = two ∙ ap (λ some. slice_set some change false) is.undecided ∙ open_less n decided last there;
          each = least_each forward kept_now now least;
          told = least ∙ ap (λ some. least_times problem (chosen_changes problem some)) flags;
          small = small;
        }

    pub dropped_on : (change : ℕ) → change < n → is_decided decided change ≡ false → (open_now : List Bool)
        → open_now ≡ slice_set open_yet change false
        → IsTrial problem (record { change = change; kept = false } ∷ decided) kept open_now times
    unfolding AreOnce
    dropped_on change there none open_now two =
        let last : Decided = record { change = change; kept = false } in
        let same = kept_same n decided last refl in
        record {
          once = (there, none, is.once);
          flags = is.flags ∙ same;
          undecided = two ∙ ap (λ some. slice_set some change false) is.undecided ∙ open_less n decided last there;
          each = is.each;
          told = is.told ∙ ap (λ some. least_times problem (chosen_changes problem some)) same;
          small = is.small;
        }

  -- the times are the least ones
  pub trial_least : IsForward problem → (decided : List Decided) (times : List ℕ)
      → times ≡ times_of (record { problem = problem; decided = decided })
      → IsLeast problem (chosen_changes problem (kept_of (record { problem = problem; decided = decided }))) times
  trial_least forward decided times told =
      let kept = kept_of (record { problem = problem; decided = decided }) in
      subst (IsLeast problem (chosen_changes problem kept)) (sym told)
      (least_times_are_least problem (chosen_changes problem kept) forward (chosen_are_changes problem kept))

-- ---- the first that passes

module _ {X : Type 0} (test : X → Bool) where
  place_is : (xs : List X) (i : ℕ) (d : X) → i < length xs → ((k : ℕ) → k < i → test (get_or xs k d) ≡ false)
      → test (get_or xs i d) ≡ true → prefix_len (λ x. not (test x)) xs ≡ i
  place_is [] i d inside fails is = absurd (omega (arith, inside))
  place_is (x ∷ xs) zero d inside fails is = ap (λ b. cond (not b) (1 + prefix_len (λ x. not (test x)) xs) 0) is
  place_is (x ∷ xs) (suc i) d inside fails is =
      let rest = place_is xs i d (omega (arith, inside)) (λ k less. fails (suc k) (omega (arith, less))) is in
      ap (λ b. cond (not b) (1 + prefix_len (λ x. not (test x)) xs) 0) (fails 0 (omega arith))
      ∙ ap (λ n. 1 + n) rest ∙ omega arith

  pub first_found : (xs : List X) (i : ℕ) (d : X) → i < length xs → ((k : ℕ) → k < i → test (get_or xs k d) ≡ false)
      → test (get_or xs i d) ≡ true → Some i ≡ position test xs
  first_found xs i d inside fails is = grind (arith, place_is, nat_lt, lt-ltb)

  none_place : (xs : List X) (d : X) → ((k : ℕ) → k < length xs → test (get_or xs k d) ≡ false)
      → prefix_len (λ x. not (test x)) xs ≡ length xs
  none_place [] d fails = refl
  none_place (x ∷ xs) d fails =
      let rest = none_place xs d (λ k less. fails (suc k) (omega (arith, less))) in
      ap (λ b. cond (not b) (1 + prefix_len (λ x. not (test x)) xs) 0) (fails 0 (omega arith))
      ∙ ap (λ n. 1 + n) rest ∙ omega arith

  pub none_found : (xs : List X) (d : X) → ((k : ℕ) → k < length xs → test (get_or xs k d) ≡ false)
      → None ≡ position test xs
  none_found xs d fails =
      sym (ap (λ n. cond (nat_lt n (length xs)) (Some n) None) (none_place xs d fails)
      ∙ ap (λ b. cond b (Some (length xs)) None) (le-ltb (length xs) (length xs) (omega arith)))

-- ---- the first change that is not decided and that times break

module _ (trial : TrialParts) (times : List ℕ) (are : times ≡ times_of trial) where
  abbrev is_open : ℕ × Activity → Bool
  is_open at = not (is_decided trial.decided at.0) && is_broken times at.1

  abbrev changes : List Activity
  changes = trial.problem.changes

  abbrev none : Activity
  none = record { id = 0; step = record { from = 0; to = 0; lower = 0; extra = 0 } }

  open_at : (k : ℕ) → k < length changes → is_open (get_or (enumerate_from 0 changes) k (0, none))
      ≡ is_open (k, get_or changes k none)
  open_at k inside = ap is_open (placed_at changes k (0, none) inside)

  at_times : position is_open (enumerate_from 0 changes) ≡ first_broken trial
  at_times = ap (λ times. position (λ (at : ℕ × Activity). not (is_decided trial.decided at.0) && is_broken times at.1)
      (enumerate_from 0 changes)) are

  pub one_open : (i : ℕ) → i < length changes
      → ((k : ℕ) (d : Activity) → k < i → (not (is_decided trial.decided k) && is_broken times (get_or changes k d))
      ≡ false)
      → ((d : Activity) → (not (is_decided trial.decided i) && is_broken times (get_or changes i d)) ≡ true)
      → Some i ≡ first_broken trial
  one_open i inside fails is =
      first_found is_open (enumerate_from 0 changes) i (0, none)
      (omega (arith, inside, length-enumerate_from 0 changes))
      (λ k less. open_at k (omega (arith, less, inside)) ∙ fails k none less)
      (open_at i inside ∙ is none) ∙ at_times

  pub none_open : ((k : ℕ) (d : Activity) → k < length changes
      → (not (is_decided trial.decided k) && is_broken times (get_or changes k d)) ≡ false)
      → None ≡ first_broken trial
  none_open fails =
      none_found is_open (enumerate_from 0 changes) (0, none)
      (λ k less. let inside : k < length changes = omega (arith, less, length-enumerate_from 0 changes) in
      open_at k inside ∙ fails k none inside) ∙ at_times

-- ---- flags of decisions

module _ (problem : DelayProblem) (decided : List Decided) (kept open_yet : List Bool) (times : List ℕ)
    (is : IsTrial problem decided kept open_yet times) where
  pub kept_size : length kept ≡ length problem.changes
  kept_size = ap length is.flags ∙ length-map-range_with_len (is_kept decided) 0 (length problem.changes)

  pub open_flag : (change : ℕ) → change < length problem.changes
      → get_or open_yet change false ≡ not (is_decided decided change)
  open_flag change there = grind (arith, get_or, get_or-map-range_with_len)

pub not_twice : (a b : Bool) → a ≡ not b → not a ≡ b
not_twice a true is = ap not is
not_twice a false is = ap not is
