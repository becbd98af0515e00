-- The activities at an event, one after the other, and what they leave.
use Rattle.plan_num.proofs.Common.{◌≡◌, ◌∙◌, ◌⊎◌, inl, inr, ℕ, ◌+◌, ◌<◌, ◌≤◌, true, false, List}
use Rattle.plan_num.proofs.Common.{length, get_or, slice_set, slice_get, Some, Contains, ap, sym}
use Rattle.plan_num.proofs.Common.{subst, arith, cases_eq, eq-eqb, false≢true, or_from, or_parts}
use Rattle.plan_num.proofs.Common.{get_or_default_zero, same_Some, get_or-set_other}
use Rattle.plan_num.proofs.Common.{get_or-set_same, length-set}
use Rattle.pesp.specs.declared.activity.PespActivity.{PespActivity}
use Rattle.pesp.specs.Timetables.{Problem}
use Rattle.pesp.specs.Flags.{Flags, has_changed}
use Rattle.pesp.specs.Marks.{Tracked, is_left, marks_left}
use Rattle.pesp.specs.Revising.{AllFrom, AreLinksAt, BoundUnless, Dies, HasEmpty, event_at}
use Rattle.pesp.specs.Revising.{IsRevised, Propagates, other_end}
use Rattle.pesp.specs.Revising.{RevisedUnless, Revises, Visits, either, is_free}
use Rattle.pesp.specs.Revising.{StaysFull}
use Rattle.pesp.proofs.Sweeping.{carried, held, none_yet}
use Rattle.pesp.specs.declared.activity_end.ActivityEnd.TheVariants as ends
use Rattle.pesp.specs.declared.activity_end.ActivityEnd.{ActivityEnd}

-- an index is among those from a place on
abbrev pub Awaits : List ℕ → ℕ → ℕ → Type 0
Awaits indexes from index =
    (place : ℕ) × (from ≤ place) × (place < length indexes) × (get_or indexes place 0 ≡ index)

-- what is known behind some of the activities at an event: the others are revised unless they wait
pub record IsVisited (problem : Problem) (event : ℕ) (indexes : List ℕ) (before now : Tracked)
    (old flags : Flags) (from : ℕ) : Type 0 where
  pub propagates : Propagates problem before now
  pub each : length flags ≡ length old
  pub done : (index : ℕ) (activity : PespActivity)
      → slice_get problem.activities index ≡ Some activity
      → is_free problem.period activity ≡ false → Awaits indexes from index
      ⊎ RevisedUnless problem.period (is_left now.sets) (has_changed flags) activity
  pub rest : (index : ℕ) (activity : PespActivity)
      → slice_get problem.activities index ≡ Some activity
      → is_free problem.period activity ≡ false
      → RevisedUnless problem.period (is_left now.sets) (either event flags) activity
  pub fewer : (other : ℕ) → has_changed flags other ≡ true
      → ((has_changed old other ≡ true) × (other ≡ event → ⊥))
      ⊎ (marks_left now.sets < marks_left before.sets)
  pub no_more : marks_left now.sets ≤ marks_left before.sets
  pub full : StaysFull before now

awaited : (indexes : List ℕ) (index : ℕ) → Contains indexes index → Awaits indexes 0 index
awaited indexes index there = grind (arith, there, get_or, get_or_default_zero)

-- the event has lost its flag
module _ (problem : Problem) (event : ℕ) (indexes : List ℕ) (sets : Tracked) (old : Flags)
    (inside : event < length old) (links : AreLinksAt problem event indexes)
    (revised : AllFrom problem.activities
    (BoundUnless problem.period (is_left sets.sets) (has_changed old)) 0) where
  abbrev left_out : Flags
  left_out = slice_set old event false

  there : (other : ℕ) → (other ≡ event → ⊥) → has_changed left_out other ≡ has_changed old other
  there other = get_or-set_other old event other false false

  gone : has_changed left_out event ≡ false
  gone = get_or-set_same old event false false inside

  unset : (other : ℕ) → (other ≡ event → ⊥) → has_changed left_out other ≡ false
      → has_changed old other ≡ false
  unset other apart none = sym (there other apart) ∙ none

  apart_at : (activity : PespActivity) → (activity.from ≡ event → ⊥) → (activity.to ≡ event → ⊥)
      → (end : ActivityEnd) → event_at activity end ≡ event → ⊥
  apart_at activity from to ends.First = from
  apart_at activity from to ends.Second = to

  begun_done : (index : ℕ) (activity : PespActivity)
      → slice_get problem.activities index ≡ Some activity
      → is_free problem.period activity ≡ false → Awaits indexes 0 index
      ⊎ RevisedUnless problem.period (is_left sets.sets) (has_changed left_out) activity
  begun_done index activity at bound = elim (cases_eq activity.from event) [
    | inl own ↦ inl (awaited indexes index (links.from index activity at bound own))
    | inr from ↦ elim (cases_eq activity.to event) [
      | inl own ↦ inl (awaited indexes index (links.to index activity at bound own))
      | inr to ↦
          let so = revised index activity at (omega arith) bound in
          inr (λ end none. so end (unset (event_at activity (other_end end))
          (apart_at activity from to (other_end end)) none))
    ]
  ]

  begun_rest : (index : ℕ) (activity : PespActivity)
      → slice_get problem.activities index ≡ Some activity
      → is_free problem.period activity ≡ false
      → RevisedUnless problem.period (is_left sets.sets) (either event left_out) activity
  begun_rest index activity at bound = grind (arith, or_parts, unset, false≢true, eq-eqb)

  pub visit_begun : IsVisited problem event indexes sets sets old left_out 0
  visit_begun = record {
    propagates = none_yet problem sets;
    each = length-set old event false;
    done = begun_done;
    rest = begun_rest;
    fewer = λ other is. grind (arith, cases_eq, false≢true, gone, there);
    no_more = omega arith;
    full = λ full. full;
  }

-- one activity more
module _ (problem : Problem) (event : ℕ) (indexes : List ℕ) (before now after : Tracked)
    (old flags more : Flags) (from index : ℕ) (activity : PespActivity)
    (so : IsVisited problem event indexes before now old flags from)
    (place : get_or indexes from 0 ≡ index) (at : slice_get problem.activities index ≡ Some
    activity)
    (period_is : now.sets.columns ≡ problem.period)
    (turn : Revises activity event now after flags more) where
  propagates : Propagates problem before after
  propagates = record {
    period = turn.0.period ∙ so.propagates.period;
    events = turn.0.events ∙ so.propagates.events;
    saved = turn.0.saved ∙ so.propagates.saved;
    within = λ e t is. so.propagates.within e t (turn.0.within e t is);
    keeps = λ left all within.
        turn.0.keeps left
        (subst (λ period. IsRevised period left activity) (sym period_is)
        (held (IsRevised problem.period left) problem.activities index activity all at))
        (so.propagates.keeps left all within);
  }

  here : is_free problem.period activity ≡ false
      → RevisedUnless problem.period (is_left after.sets) (has_changed more) activity
  here bound = subst (λ period. RevisedUnless period (is_left now.sets) (either event flags)
      activity
      → RevisedUnless period (is_left after.sets) (has_changed more) activity) period_is turn.1
      (so.rest index activity at bound)

  done : (other : ℕ) (one : PespActivity) → slice_get problem.activities other ≡ Some one
      → is_free problem.period one ≡ false → Awaits indexes (from + 1) other
      ⊎ RevisedUnless problem.period (is_left after.sets) (has_changed more) one
  done other one is bound = elim (so.done other one is bound) [
    | inr revised ↦ grind (arith, carried)
    | inl waits ↦ elim (cases_eq waits.0 from) [
      | inr apart ↦
          inl (waits.0, (let low = waits.1 in omega (arith, low, apart)), waits.2, waits.3)
      | inl own ↦
          let same : other ≡ index = sym waits.3 ∙ ap (λ place. get_or indexes place 0) own
          ∙ place in
          let equal : activity ≡ one =
          same_Some _ _ (sym at ∙ ap (slice_get problem.activities) (sym same) ∙ is) in
          inr (subst (RevisedUnless problem.period (is_left after.sets) (has_changed more)) equal
          (here (ap (is_free problem.period) equal ∙ bound)))
    ]
  ]

  rest : (other : ℕ) (one : PespActivity) → slice_get problem.activities other ≡ Some one
      → is_free problem.period one ≡ false
      → RevisedUnless problem.period (is_left after.sets) (either event more) one
  rest other one is bound = grind (arith, carried, or_parts, or_from)

  fewer : (other : ℕ) → (has_changed flags other ≡ true) ⊎ (marks_left after.sets < marks_left
      now.sets)
      → ((has_changed old other ≡ true) × (other ≡ event → ⊥))
      ⊎ (marks_left after.sets < marks_left before.sets)
  fewer other (inr less) = inr (omega (arith, less, so.no_more))
  fewer other (inl was) = grind arith

  pub visit_turn : StaysFull now after
      → IsVisited problem event indexes before after old more (from + 1)
  visit_turn full = record {
    propagates = propagates;
    each = turn.0.each ∙ so.each;
    done = done;
    rest = rest;
    fewer = λ other is. fewer other (turn.0.fewer other is);
    no_more = omega (arith, turn.0.no_more, so.no_more);
    full = λ was. full (so.full was);
  }

  pub visit_died : HasEmpty after.sets → Dies problem before after
  visit_died empty = record { propagates = propagates; empty = empty }

pub visit_ended : (problem : Problem) (event : ℕ) (indexes : List ℕ) (before now : Tracked)
    (old flags : Flags) (from : ℕ) → IsVisited problem event indexes before now old flags from
    → length indexes ≤ from → Visits problem event before now old flags
visit_ended problem event indexes before now old flags from so all = grind (
  arith,
  propagates,
  done,
  fewer,
)
