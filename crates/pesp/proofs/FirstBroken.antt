-- The first broken activity of a problem: how it is found, and what it means.
use Rattle.plan_num.proofs.Common.{◌≡◌, ℕ, ◌+◌, ◌<◌, pos, Bool, true, false, not, cond, List, []}
use Rattle.plan_num.proofs.Common.{◌∷◌, length, get_or, slice_get, position, refl, sym, subst, ◌∙◌}
use Rattle.plan_num.proofs.Common.{Option, Some, None, All, Decides, arith, position_from, is_none}
use Rattle.plan_num.proofs.Common.{false≢true, not-false, not-true, position_from-zero, All-nil}
use Rattle.plan_num.proofs.Common.{All-cons, All-from_get_or, position-Some, get_or_from_slice_get}
use Rattle.plan_num.proofs.Common.{slice_get-get_or}
use Rattle.pesp.specs.declared.activity.PespActivity.{PespActivity}
use Rattle.pesp.specs.Timetables.{Problem, IsProblem, IsActivity, IsKept, IsTimetable, IsFirstBroken, keeps_in, first_broken}
use Rattle.pesp.proofs.Keeping.{test_tells}

module _ {X : Type 0} (test : X → Bool) where
  -- the first place among those that are left, from the start on
  pub place_start : (xs : List X) → position test xs ≡ position_from test 0 xs
  place_start xs = position_from-zero test xs

  -- where there is none, each item fails
  none_from : (i : ℕ) (xs : List X) → position_from test i xs ≡ None → All (λ x. test x ≡ false) xs
  none_from i [] none = All-nil (λ x. test x ≡ false)
  none_from i (x ∷ xs) none =
      elim (test x) as (λ b. test x ≡ b → cond b (Some i) (position_from test (i + 1) xs) ≡ None
      → All (λ x. test x ≡ false) (x ∷ xs)) [
        | true ↦ λ is none. absurd (let e = none in cc)
        | false ↦ λ is none. All-cons (λ x. test x ≡ false) x xs is (none_from (i + 1) xs none)
      ] refl none

  pub none_passes : (xs : List X) → position test xs ≡ None → All (λ x. test x ≡ false) xs
  none_passes xs none = none_from 0 xs (sym (place_start xs) ∙ none)

-- the first activity that breaks its bounds, among the activities of a problem
pub found_in : (problem : Problem) (times : List ℕ) (period : ℕ) (activities : List PespActivity)
    (found : Option ℕ) → period ≡ problem.period → activities ≡ problem.activities
    → found ≡ position (λ activity. not (keeps_in period times activity)) activities
    → found ≡ first_broken problem times
unfolding first_broken
found_in problem times period activities found same all is = grind arith

-- ---- what the first broken activity means

abbrev pub no_activity : PespActivity
no_activity = record { from = 0; to = 0; lower = pos 0; upper = pos 0 }

module _ (problem : Problem) (times : List ℕ) (is : IsProblem problem) (each : length times
    ≡ problem.events) (within : All (λ time. time < problem.period) times) where
  abbrev Kept : PespActivity → Type 0
  Kept = IsKept problem.period times

  abbrev breaks : PespActivity → Bool
  breaks activity = not (keeps_in problem.period times activity)

  told : (activity : PespActivity) → IsActivity problem.events activity
      → Decides (keeps_in problem.period times activity) (Kept activity)
  told activity sound = test_tells problem.period times within activity
      (subst (λ events. IsActivity events activity) (sym each) sound)

  told_at : (i : ℕ) → i < length problem.activities
      → Decides (keeps_in problem.period times (get_or problem.activities i no_activity))
      (Kept (get_or problem.activities i no_activity))
  told_at i some = told (get_or problem.activities i no_activity) (is.sound i no_activity some)

  kept_at : (i : ℕ) → i < length problem.activities
      → breaks (get_or problem.activities i no_activity) ≡ false
      → Kept (get_or problem.activities i no_activity)
  kept_at i some keeps = (told_at i some).0 (not-false _ keeps)

  -- an activity that is named, and its place
  named : (i : ℕ) (activity : PespActivity) → slice_get problem.activities i ≡ Some activity
      → get_or problem.activities i no_activity ≡ activity
  named i activity at = get_or_from_slice_get problem.activities i activity no_activity at

  first_at : (found : Option ℕ) → position breaks problem.activities ≡ found
      → IsFirstBroken problem times found
  first_at None none =
      let keep = none_passes breaks problem.activities none in
      record {
        each = each;
        within = within;
        kept = All-from_get_or Kept problem.activities no_activity
            (λ i some. kept_at i some (keep i no_activity some));
      }
  first_at (Some index) found =
      let parts = position-Some breaks problem.activities index no_activity found in (
        parts.0,
        (λ activity at kept.
            let own = subst Kept (sym (named index activity at)) kept in
            false≢true (sym (not-true _ parts.1) ∙ (told_at index parts.0).1 own)),
        (λ earlier activity less at.
            subst Kept (named earlier activity at)
            (kept_at earlier (omega (arith, less, parts.0)) (parts.2 earlier less))),
      )

  pub first_is : (found : Option ℕ) → found ≡ first_broken problem times
      → IsFirstBroken problem times found
  unfolding first_broken
  first_is found is = first_at found (sym is)

  pub none_is : (found : Option ℕ) → IsFirstBroken problem times found
      → Decides (is_none found) (IsTimetable problem times)
  none_is None first = ((λ _. first), (λ _. refl))
  none_is (Some index) first = (
    (λ e. absurd (false≢true e)),
    (λ timetable. absurd (first.1 (get_or problem.activities index no_activity)
        (slice_get-get_or problem.activities index no_activity first.0)
        (timetable.kept index no_activity first.0))),
  )
