-- Sweeps over the events whose sets have changed, and what they leave.
use Rattle.plan_num.proofs.Common.{◌≡◌, ◌∙◌, ◌⊎◌, inl, inr, ℕ, ◌+◌, ◌<◌, ◌≤◌, Bool, true, false}
use Rattle.plan_num.proofs.Common.{List, [], length, cond, slice_get, Some, None, All, sym, subst}
use Rattle.plan_num.proofs.Common.{arith, cases_lt, false≢true, get_or_past, get_or_from_slice_get}
use Rattle.plan_num.proofs.Common.{slice_get_within}
use Rattle.pesp.specs.declared.activity.PespActivity.{PespActivity}
use Rattle.pesp.specs.Timetables.{IsActivity, IsProblem, Problem}
use Rattle.pesp.specs.Flags.{Flags, IsLastFlag, has_changed, some_changed}
use Rattle.pesp.specs.Marks.{Tracked, is_left, marks_left}
use Rattle.pesp.specs.Revising.{AllFrom, AreRevised, BoundUnless, Dies, IsReady, IsRevised}
use Rattle.pesp.specs.Revising.{IsWithin, event_at, other_end}
use Rattle.pesp.specs.Revising.{Left, Propagates, RevisedUnless, Sweeps, Visits, is_free}
use Rattle.pesp.specs.Revising.{IsFull, StaysFull}
use Rattle.pesp.proofs.Revised.{carried_end, end_inside}
use Rattle.pesp.proofs.AnyBelow.{none_below, some_below}

-- what is known behind the events from one on: no flag is left at them unless times were taken out
pub record IsSwept (problem : Problem) (before now : Tracked) (flags : Flags) (end : ℕ) : Type 0
  where
    pub propagates : Propagates problem before now
    pub each : length flags ≡ problem.events
    pub within : end ≤ problem.events
    pub revised : AllFrom problem.activities
        (BoundUnless problem.period (is_left now.sets) (has_changed flags)) 0
    pub fewer : (event : ℕ) → has_changed flags event ≡ true
        → (event < end) ⊎ (marks_left now.sets < marks_left before.sets)
    pub no_more : marks_left now.sets ≤ marks_left before.sets
    pub full : StaysFull before now

-- what is known between two sweeps
pub record IsReducing (problem : Problem) (before now : Tracked) (flags : Flags) : Type 0 where
  pub propagates : Propagates problem before now
  pub each : length flags ≡ problem.events
  pub revised : AllFrom problem.activities
      (BoundUnless problem.period (is_left now.sets) (has_changed flags)) 0
  pub full : StaysFull before now

-- ---- activities at an index

pub held : {X : Type 0} (P : X → Type 0) (xs : List X) (i : ℕ) (x : X) → All P xs
    → slice_get xs i ≡ Some x → P x
held P xs i x all is = subst P (get_or_from_slice_get xs i x x is) (all i x (slice_get_within xs i
    x is))

-- what is revised stays so where sets have not changed
pub carried : (period : ℕ) (old new : Left) (flags more : ℕ → Bool) (other : PespActivity)
    → IsWithin new old
    → ((event : ℕ) → more event ≡ false → (flags event ≡ false) × (new event ≡ old event))
    → RevisedUnless period old flags other → RevisedUnless period new more other
carried period old new flags more other within untouched so end = grind (arith, carried_end)

-- ---- smaller and smaller sets

pub none_yet : (problem : Problem) (sets : Tracked) → Propagates problem sets sets
none_yet problem sets = grind arith

pub both_propagate : (problem : Problem) (before now after : Tracked)
    → Propagates problem before now
    → Propagates problem now after → Propagates problem before after
both_propagate problem before now after one two = record {
  period = two.period ∙ one.period;
  events = two.events ∙ one.events;
  saved = two.saved ∙ one.saved;
  within = λ e t is. one.within e t (two.within e t is);
  keeps = λ left all within. two.keeps left all (one.keeps left all within);
}

-- ---- a sweep

pub sweep_begun : (problem : Problem) (sets : Tracked) (flags : Flags) (end : ℕ)
    → end ≡ length flags → length flags ≡ problem.events
    → AllFrom problem.activities (BoundUnless problem.period (is_left sets.sets) (has_changed
    flags)) 0
    → IsSwept problem sets sets flags end
sweep_begun problem sets flags end all each revised = grind (
  arith,
  none_yet,
  cases_lt,
  false≢true,
  get_or_past,
)

pub sweep_turn : (problem : Problem) (before now after : Tracked) (flags more : Flags) (end event
    : ℕ)
    → IsSwept problem before now flags end → IsLastFlag flags end (Some event)
    → Visits problem event now after flags more → IsSwept problem before after more event
sweep_turn problem before now after flags more end event so last turn = record {
  propagates = both_propagate problem before now after so.propagates turn.propagates;
  each = turn.each ∙ so.each;
  within = (let low = last.0 in omega (arith, low, so.within));
  revised = turn.revised;
  fewer = λ other is. fewer other (turn.fewer other is);
  no_more = omega (arith, turn.no_more, so.no_more);
  full = λ was. turn.full (so.full was);
}
  where
    earlier : (other : ℕ) → has_changed flags other ≡ true → (other ≡ event → ⊥) → other < end
        → other < event
    earlier other is apart low = grind (arith, cases_lt, false≢true)

    old : (other : ℕ) → has_changed flags other ≡ true → (other ≡ event → ⊥)
        → (other < end) ⊎ (marks_left now.sets < marks_left before.sets)
        → (other < event) ⊎ (marks_left after.sets < marks_left before.sets)
    old other is apart (inl low) = inl (earlier other is apart low)
    old other is apart (inr less) = inr (omega (arith, less, turn.no_more))

    fewer : (other : ℕ)
        → ((has_changed flags other ≡ true) × (other ≡ event
        → ⊥)) ⊎ (marks_left after.sets < marks_left now.sets)
        → (other < event) ⊎ (marks_left after.sets < marks_left before.sets)
    fewer other (inl was) = old other was.0 was.1 (so.fewer other was.0)
    fewer other (inr less) = inr (omega (arith, less, so.no_more))

pub sweep_died : (problem : Problem) (before now after : Tracked) (flags : Flags) (end : ℕ)
    → IsSwept problem before now flags end → Dies problem now after → Dies problem before after
sweep_died problem before now after flags end so dead = record {
  propagates = both_propagate problem before now after so.propagates dead.propagates;
  empty = dead.empty;
}

pub sweep_ended : (problem : Problem) (before now : Tracked) (flags : Flags) (end : ℕ)
    → IsSwept problem before now flags end → IsLastFlag flags end None
    → Sweeps problem before now flags
sweep_ended problem before now flags end so none = grind (arith, some_below, false≢true)

-- ---- sweeps

pub reducing_begun : (problem : Problem) (sets : Tracked) (flags : Flags)
    → IsReady problem sets flags → IsReducing problem sets sets flags
reducing_begun problem sets flags ready = grind arith

-- flags that are all set make sets ready
pub all_ready : (problem : Problem) (sets : Tracked) (flags : Flags) → IsProblem problem
    → length flags ≡ problem.events
    → ((event : ℕ) → event < problem.events → has_changed flags event ≡ true) → sets.saved ≡ []
    → IsFull sets.sets → IsReady problem sets flags
all_ready problem sets flags sound each all none full = record {
  each = each;
  full = full;
  revised = λ i activity at _.
      let is = held (IsActivity problem.events) problem.activities i activity sound.sound at in
      λ end other. absurd (false≢true (sym other ∙ all (event_at activity (other_end end))
      (end_inside problem.events activity is (other_end end))));
  saved = subst (AreRevised problem) (sym none) tt;
}

pub reducing_turn : (problem : Problem) (before now after : Tracked) (flags next : Flags)
    → IsReducing problem before now flags → Sweeps problem now after next
    → IsReducing problem before after next
reducing_turn problem before now after flags next so swept = record {
  propagates = both_propagate problem before now after so.propagates swept.propagates;
  each = swept.each;
  revised = swept.revised;
  full = λ was. swept.full (so.full was);
}

-- how much is still to be done: a sweep takes times out, or is the last one
abbrev pub to_be_done : Tracked → Flags → ℕ
to_be_done sets flags = marks_left sets.sets + cond (some_changed flags) 1 0

-- at the end all activities are revised that are not free
pub all_bound : (problem : Problem) (before now : Tracked) (flags : Flags) → IsProblem problem
    → IsReducing problem before now flags → some_changed flags ≡ false
    → AllFrom problem.activities (λ activity. is_free problem.period activity ≡ false
    → IsRevised problem.period (is_left now.sets) activity) 0
all_bound problem before now flags sound so none i activity at low bound =
    let is = held (IsActivity problem.events) problem.activities i activity sound.sound at in
    λ end. so.revised i activity at low bound end
    (none_below (has_changed flags) (length flags) (event_at activity (other_end end)) none
    (omega (arith, end_inside problem.events activity is (other_end end), so.each)))
