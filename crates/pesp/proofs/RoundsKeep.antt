-- Rounds lose no timetable.
use Rattle.plan_num.proofs.Common.{◌≡◌, ◌∙◌, ℕ, zero, suc, ◌+◌, ◌<◌, ◌==◌, nat_eq, Bool, true}
use Rattle.plan_num.proofs.Common.{false, inl, inr, not, ◌&&◌, ◌||◌, List, [], ◌∷◌, filter, get_or}
use Rattle.plan_num.proofs.Common.{length, map, refl, ap, sym, subst, arith, AllZip, enumerate_from}
use Rattle.plan_num.proofs.Common.{list_any, eqb-true, or_right, cases_Bool, list_all-from_AllPass}
use Rattle.plan_num.proofs.Common.{Any-from_list_any, list_any_at}
use Rattle.pesp.specs.declared.activity.PespActivity.{PespActivity}
use Rattle.pesp.specs.Timetables.{IsActivity, IsProblem, IsTimetable, Problem, keeps}
use Rattle.pesp.specs.Timetables.{keeps_in, time_of}
use Rattle.pesp.proofs.Keeping.{test_tells}
use Rattle.pesp.specs.TimeSets.{has_first, has_partner, has_partners, has_second, left_to, reduced}
use Rattle.pesp.specs.TimeSets.{round, rounds, times_left}

-- a time is one of some
abbrev pub is_in : ℕ → List ℕ → Bool
is_in time times = list_any (nat_eq time) times

-- times, one to each event, each of which is left to its event
abbrev pub Holds : List (List ℕ) → List ℕ → Type 0
Holds sets times = AllZip (λ time left. is_in time left ≡ true) times sets

pub any_of : (test : ℕ → Bool) (x : ℕ) (xs : List ℕ) → is_in x xs ≡ true → test x ≡ true
    → list_any test xs ≡ true
any_of test x xs is holds =
    let at = Any-from_list_any (nat_eq x) xs is in grind (arith, list_any_at, eqb-true)

pub filter_keeps : (test : ℕ → Bool) (x : ℕ) (xs : List ℕ) → is_in x xs ≡ true → test x ≡ true
    → is_in x (filter test xs) ≡ true
filter_keeps test x [] is holds = absurd (cc)
filter_keeps test x (y ∷ xs) is holds = elim (cases_Bool (nat_eq x y)) [
  | inl same ↦ grind (arith, eqb-true)
  | inr other ↦ grind (
    arith,
    cases_Bool,
    or_right,
    nat_eq,
    filter_keeps test x xs (rw other at is)
        holds,
  )
]

-- the time of an event is left to it
pub held_at : (sets : List (List ℕ)) (times : List ℕ) (event : ℕ) → Holds sets times
    → event < length times → is_in (time_of times event) (left_to sets event) ≡ true
held_at sets [] event h inside = absurd (omega (arith, inside))
held_at [] (time ∷ times) event h inside = absurd h
held_at (set ∷ sets) (time ∷ times) zero h inside = h.0
held_at (set ∷ sets) (time ∷ times) (suc event) h inside =
    held_at sets times event h.1 (omega (arith, inside))

module _ (problem : Problem) (sound : IsProblem problem) (times : List ℕ)
    (is : IsTimetable problem times) where
  keeps_own : (k : ℕ) (d : PespActivity) → k < length problem.activities
      → keeps_in problem.period times (get_or problem.activities k d) ≡ true
  keeps_own k d inside =
      (test_tells problem.period times is.within (get_or problem.activities k d)
      (subst (λ events. IsActivity events (get_or problem.activities k d)) (sym is.each) (sound.sound k d inside))).1
      (is.kept k d inside)

  module _ (sets : List (List ℕ)) (holds : Holds sets times) where
    -- the time of an event has a partner on each activity
    partner_there : (event : ℕ) (activity : PespActivity) → IsActivity problem.events activity
        → keeps_in problem.period times activity ≡ true
        → has_partner problem.period sets event (time_of times event) activity ≡ true
    partner_there event activity sound kept =
        ap (λ b. b && second_part) first ∙ second
      where
        second_part : Bool
        second_part =
            not (activity.to == event) || has_first problem.period sets (time_of times event) activity

        at : (event : ℕ) → event < problem.events → is_in (time_of times event) (left_to sets event) ≡ true
        at event inside = held_at sets times event holds (omega (arith, inside, is.each))

        first : (not (activity.from == event) || has_second problem.period sets (time_of times event) activity) ≡ true
        first = elim (cases_Bool (activity.from == event)) [
          | inr other ↦ rw other refl
          | inl same ↦ rw same (
              ap (λ event. has_second problem.period sets (time_of times event) activity)
              (sym (eqb-true activity.from event same))
              ∙ any_of (keeps problem.period activity (time_of times activity.from)) (time_of times activity.to)
              (left_to sets activity.to) (at activity.to sound.to) kept)
        ]

        second : second_part ≡ true
        second = elim (cases_Bool (activity.to == event)) [
          | inr other ↦ rw other refl
          | inl same ↦ rw same (
              ap (λ event. has_first problem.period sets (time_of times event) activity)
              (sym (eqb-true activity.to event same))
              ∙ any_of (λ other. keeps problem.period activity other (time_of times activity.to))
              (time_of times activity.from) (left_to sets activity.from) (at activity.from sound.from) kept)
        ]

    partners_there : (event : ℕ) → has_partners problem sets event (time_of times event) ≡ true
    partners_there event =
        list_all-from_AllPass (has_partner problem.period sets event (time_of times event)) problem.activities
        (λ k d inside. partner_there event (get_or problem.activities k d) (sound.sound k d inside) (keeps_own k d inside))

    round_from : (n : ℕ) (rest : List ℕ) (left : List (List ℕ)) → Holds left rest
        → ((k : ℕ) → k < length rest → has_partners problem sets (n + k) (get_or rest k 0) ≡ true)
        → Holds (map (λ at. filter (has_partners problem sets at.0) at.1) (enumerate_from n left)) rest
    round_from n [] [] h partners = tt
    round_from n [] (set ∷ left) h partners = absurd h
    round_from n (time ∷ rest) [] h partners = absurd h
    round_from n (time ∷ rest) (set ∷ left) h partners = (
      filter_keeps (has_partners problem sets n) time set h.0
          (subst (λ m. has_partners problem sets m time ≡ true) (omega arith) (partners 0 (omega arith))),
      round_from (n + 1) rest left h.1 (λ k inside.
          subst (λ m. has_partners problem sets m (get_or rest k 0) ≡ true) (omega arith)
          (partners (suc k) (omega (arith, inside)))),
    )

    round_keeps : Holds (round problem sets) times
    round_keeps = round_from 0 times sets holds
        (λ k inside. subst (λ m. has_partners problem sets m (get_or times k 0) ≡ true) (omega arith) (partners_there k))

  rounds_keep : (more : ℕ) (sets : List (List ℕ)) → Holds sets times → Holds (rounds more problem sets) times
  unfolding rounds
  rounds_keep zero sets holds = holds
  rounds_keep (suc more) sets holds =
      elim (nat_eq (times_left (round problem sets)) (times_left sets)) as
      (λ b. Holds (elim b as (λ _. List (List ℕ)) [
        | true ↦ sets
        | false ↦ rounds more problem (round problem sets)
      ]) times) [
        | true ↦ holds
        | false ↦ rounds_keep more (round problem sets) (round_keeps sets holds)
      ]

  -- what is left of sets has a timetable that they have
  pub reduced_keeps : (sets : List (List ℕ)) → Holds sets times → Holds (reduced problem sets) times
  unfolding reduced
  reduced_keeps sets holds = rounds_keep (times_left sets) sets holds
