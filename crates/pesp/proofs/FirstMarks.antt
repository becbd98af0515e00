-- The marks at first, and marks of which one time of an event is left.
use Rattle.plan_num.proofs.Common.{◌≡◌, ◌∙◌, inl, inr, ℕ, zero, suc, ◌+◌, ◌<◌, ◌≤◌, ◌==◌, Bool}
use Rattle.plan_num.proofs.Common.{true, false, not, ◌&&◌, ◌||◌, if◌then◌else◌, List, [], ◌∷◌, map}
use Rattle.plan_num.proofs.Common.{filter, refl, ap, sym, arith, Ok, range_with_len, and_from}
use Rattle.plan_num.proofs.Common.{and_parts, and_right, cases_eq, eq-eqb, ne_eqb}
use Rattle.bit_rows.specs.Bits.{marked}
use Rattle.pesp.specs.Listings.{times_at_first, with_time}
use Rattle.pesp.specs.Marks.{KeepsTime, Marks, Prunes, Tracked, family, is_left, sets_of}
use Rattle.pesp.specs.Revising.{Left, stays}
use Rattle.pesp.specs.Searches.{AreFirst}
use Rattle.pesp.specs.Timetables.{Problem}
use Rattle.pesp.proofs.Families.{sets_family}
use Rattle.pesp.proofs.Partners.{kept_first, left_out, same_on_range, set_on_range}
use Rattle.pesp.proofs.Pruned.{kept_by, prunes_by_bits}
use Rattle.plan_num.proofs.Parts.{all_of_range, none_of_range}

-- ---- filters of a range

-- one number passes
pub filter_one : (test : ℕ → Bool) (one : ℕ) (from n : ℕ) → from ≤ one → one < from + n
    → test one ≡ true → ((x : ℕ) → (x ≡ one → ⊥) → test x ≡ false)
    → filter test (range_with_len from n) ≡ one ∷ []
filter_one test one from zero low high is others = absurd (omega (arith, low, high))
filter_one test one from (suc n) low high is others = elim (cases_eq from one) [
  | inl same ↦ grind (arith, kept_first, none_of_range)
  | inr other ↦ grind (
    arith,
    left_out,
    filter_one test one (from + 1) n (omega (arith, low, other))
        (omega (arith, high)) is others,
  )
]

-- ---- one time of an event

module _ (before after : Tracked) (event time : ℕ) (within : event < before.sets.rows)
    (small : time < before.sets.columns) (left : is_left before.sets event time ≡ true) where
  abbrev one : ℕ → Bool
  one other = other == time

  kept : (changes : Bool) → Prunes before after (kept_by event one) changes
      → KeepsTime before after event time
  kept changes so = record {
    period = so.period;
    events = so.events;
    saved = so.saved;
    sets = sets_family after.sets
        ∙ (λ i. family (so.period i) (so.events i) (so.left i))
        ∙ set_on_range (λ e. filter (is_left before.sets e) (range_with_len 0 before.sets.columns))
        (λ e. filter (after_left e) (range_with_len 0 before.sets.columns)) (time ∷ []) 0
        before.sets.rows
        event event (omega arith) within only others
        ∙ ap (λ sets. with_time sets event time) (sym (sets_family before.sets));
    within = λ e t is.
        (and_parts (is_left before.sets e t) _ (sym (ap (λ (left : Left). left e t) so.left)
        ∙ is)).0;
    others = λ e other. ap (λ (left : Left). left e) so.left
        ∙ (λ i t. and_all (is_left before.sets e t) _ (ap (λ b. not b
        || (t == time)) (ne_eqb e event other)) i);
  }
    where
      after_left : Left
      after_left e t = is_left before.sets e t && kept_by event one e t

      and_all : (x y : Bool) → y ≡ true → (x && y) ≡ x
      and_all true y is = is
      and_all false y is = refl

      here : (t : ℕ) → kept_by event one event t ≡ (t == time)
      here t = ap (λ b. not b || (t == time)) (eq-eqb event event refl)

      only : filter (after_left event) (range_with_len 0 before.sets.columns) ≡ time ∷ []
      only = filter_one (after_left event) time 0 before.sets.columns (omega arith) (omega (
        arith,
        small,
      ))
          (and_from _ _ left (here time ∙ eq-eqb time time refl))
          (λ t other. and_right (is_left before.sets event t) _ (here t ∙ ne_eqb t time other))

      others : (e : ℕ) → (e ≡ event → ⊥)
          → filter (after_left e) (range_with_len 0 before.sets.columns)
          ≡ filter (is_left before.sets e) (range_with_len 0 before.sets.columns)
      others e other = grind arith

  pub keeps_time : (keep : List ℕ) (changes : Bool) → ((other : ℕ) → marked keep other ≡ one other)
      → Prunes before after (stays event keep) changes → KeepsTime before after event time
  keeps_time keep changes is so =
      kept changes (prunes_by_bits {E = ℕ} before after event one keep (Ok changes) (λ other _. is
      other) so)

-- ---- the sets at first

-- all times are left to each event
abbrev all_sets : ℕ → ℕ → List (List ℕ)
all_sets period events = map (λ _. range_with_len 0 period) (range_with_len 0 events)

all_are : (marks : Marks)
    → ((event time : ℕ) → event < marks.rows → time < marks.columns
    → is_left marks event time ≡ true)
    → sets_of marks ≡ all_sets marks.columns marks.rows
all_are marks all = grind (arith, sets_family, same_on_range, all_of_range)

-- and then time 0 alone to the first one
one_first : (period events : ℕ) → 0 < events
    → with_time (all_sets period events) 0 0 ≡ map (times_at_first period) (range_with_len 0 events)
one_first period events some =
    sym (set_on_range (λ _. range_with_len 0 period) (times_at_first period) (0 ∷ []) 0 events 0 0
    (omega arith) some refl
    (λ event other. ap (λ b. if b then 0 ∷ [] else range_with_len 0 period) (ne_eqb event 0 other)))

module _ (problem : Problem) (marks : Marks) (before : Tracked)
    (is : before ≡ record { sets = marks; saved = [] }) (period : marks.columns ≡ problem.period)
    (events : marks.rows ≡ problem.events)
    (all : (event time : ℕ) → event < marks.rows → time < marks.columns
    → is_left marks event time ≡ true) where
  same_period : before.sets.columns ≡ problem.period
  same_period = ap (λ (now : Tracked). now.sets.columns) is ∙ period

  same_events : before.sets.rows ≡ problem.events
  same_events = ap (λ (now : Tracked). now.sets.rows) is ∙ events

  sets_are : sets_of before.sets ≡ all_sets problem.period problem.events
  sets_are =
      ap (λ (now : Tracked). sets_of now.sets) is ∙ all_are marks all
      ∙ (λ i. all_sets (period i) (events i))

  pub first_of_none : problem.events ≡ 0 → AreFirst problem before
  first_of_none none = grind arith

  pub first_of_some : (after : Tracked) → 0 < problem.events → KeepsTime before after 0 0
      → AreFirst problem after
  first_of_some after some kept = grind (arith, kept, same_period, same_events, sets_are, one_first)
