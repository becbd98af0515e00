-- Sets of times that cycles bring back to themselves.
use Rattle.plan_num.proofs.Common.{◌≡◌, ◌∙◌, ◌⊎◌, inl, inr, ℕ, ◌+◌, ◌%◌, ◌<◌, ◌==◌, nat_lt, Bool}
use Rattle.plan_num.proofs.Common.{true, false, not, ◌&&◌, ◌||◌, ◌-◌, filter, ap, sym, subst, arith}
use Rattle.plan_num.proofs.Common.{IfOk, Result, Ok, Err, MatchBool, range_with_len, and_from}
use Rattle.plan_num.proofs.Common.{and_parts, cases_Bool, cases_eq, false≢true, ltb-true, ne_eqb}
use Rattle.plan_num.proofs.Common.{or_left, or_right}
use Rattle.pesp.specs.Timetables.{Problem}
use Rattle.pesp.specs.Cycles.{AreLater, Closes, Repeats}
use Rattle.pesp.specs.Flags.{Flags, has_changed}
use Rattle.pesp.specs.Listings.{is_empty}
use Rattle.pesp.specs.Marks.{Marks, Prunes, Tracked, is_left, marks_left, times_from}
use Rattle.pesp.specs.Revising.{AllFrom, BoundUnless, Dies, IsFull, IsWithin, Left}
use Rattle.pesp.specs.Revising.{Propagates, StaysFull, Visits, reaches}
use Rattle.pesp.proofs.AnyBelow.{passes_below}
use Rattle.pesp.proofs.EmptySets.{full_at, full_from}
use Rattle.pesp.proofs.Revised.{side_untouched}
use Rattle.pesp.proofs.Sweeping.{both_propagate, carried}

-- a time that is left is one of the period
left_low : (sets : Marks) (event time : ℕ) → is_left sets event time ≡ true → time < sets.columns
left_low sets event time is = ltb-true _ _ (and_parts (nat_lt time sets.columns) _ is).0

-- one turn more
module _ (before now after : Tracked) (event minutes by : ℕ) (changes : Bool)
    (so : Closes before now event minutes)
    (again : (left : ℕ → Bool) → Repeats before.sets.columns left minutes
    → Repeats before.sets.columns left by)
    (turn : Prunes now after (λ other time. not (other == event)
    || reaches now.sets.columns (is_left now.sets event) by 0 time) changes) where
  abbrev test : ℕ → Bool
  test = reaches now.sets.columns (is_left now.sets event) by 0

  at : (e t : ℕ) → is_left after.sets e t
      ≡ (is_left now.sets e t && (not (e == event) || test t))
  at e t = ap (λ (left : Left). left e t) turn.left

  kept : (left : Left) → Repeats before.sets.columns (left event) minutes
      → IsWithin left (is_left now.sets) → (t : ℕ) → left event t ≡ true → test t ≡ true
  kept left repeats inside t is =
      let low = left_low now.sets event t (inside event t is) in
      let later = again (left event) repeats t (omega (arith, low, so.period)) is in
      let same : t + by + 0 ≡ t + by = omega arith in
      passes_below (λ n. is_left now.sets event ((t + by + n) % now.sets.columns)) 1 0 (omega arith)
      (inside event _ ((λ i. left event (same i % so.period i)) ∙ later))

  stays : (left : Left) → Repeats before.sets.columns (left event) minutes
      → IsWithin left (is_left now.sets) → (e t : ℕ) → left e t ≡ true
      → (not (e == event) || test t) ≡ true
  stays left repeats inside e t is = elim (cases_eq e event) [
    | inl own ↦
        or_right (not (e == event)) _
        (kept left repeats inside t (subst (λ e. left e t ≡ true) own is))
    | inr apart ↦ or_left _ (test t) (ap (λ b. not b) (ne_eqb e event apart))
  ]

  pub closes_more : Closes before after event minutes
  closes_more = record {
    period = turn.period ∙ so.period;
    events = turn.events ∙ so.events;
    saved = turn.saved ∙ so.saved;
    within = λ e t is. so.within e t (and_parts (is_left now.sets e t) _ (sym (at e t) ∙ is)).0;
    others = λ other apart.
        side_untouched now after event test changes turn other (λ own. absurd (apart own))
        ∙ so.others other apart;
    keeps = λ left repeats inside e t is.
        let there = so.keeps left repeats inside in
        at e t ∙ and_from (is_left now.sets e t) _ (there e t is)
        (stays left repeats there e t is);
    no_more = omega (arith, turn.no_more, so.no_more);
  }

-- times stay left to all events where some do to this one
pub closes_full : (before after : Tracked) (event minutes : ℕ) (changes : Bool)
    → Closes before after event minutes → (changes ≡ false → after ≡ before)
    → (changes ≡ true → is_empty (times_from after.sets event 0) ≡ false) → StaysFull before after
closes_full before after event minutes changes so same some full = elim (cases_Bool changes) [
  | inl is ↦ full_from after.sets (each is)
  | inr is ↦ subst (λ (tracked : Tracked). IsFull tracked.sets) (sym (same is)) full
]
  where
    each : changes ≡ true → (other : ℕ) → other < after.sets.rows
        → is_empty (times_from after.sets other 0) ≡ false
    each is other within = elim (cases_eq other event) [
      | inl own ↦ ap (λ event. is_empty (times_from after.sets event 0)) own ∙ some is
      | inr apart ↦
          (λ i. is_empty (filter (so.others other apart i) (range_with_len 0 (so.period i - 0))))
          ∙ full_at before.sets other (subst (λ events. other < events) so.events within) full
    ]

-- ---- a visit that begins so

module _ (problem : Problem) (before now : Tracked) (event minutes : ℕ)
    (so : Closes before now event minutes) where
  pub close_propagates : before.sets.columns ≡ problem.period
      → AreLater problem event event minutes → Propagates problem before now
  close_propagates period later = record {
    period = so.period;
    events = so.events;
    saved = so.saved;
    within = so.within;
    keeps = λ left all inside.
        so.keeps left (subst (λ period. Repeats period (left event) minutes) (sym period)
        (later left all)) inside;
  }

  pub closed_bound : (flags : Flags) → has_changed flags event ≡ true
      → AllFrom problem.activities
      (BoundUnless problem.period (is_left before.sets) (has_changed flags)) 0
      → AllFrom problem.activities
      (BoundUnless problem.period (is_left now.sets) (has_changed flags)) 0
  closed_bound flags flag revised index activity at low bound =
      carried problem.period (is_left before.sets) (is_left now.sets) (has_changed flags)
      (has_changed flags) activity so.within
      (λ other none. (
        none,
        so.others other (λ own.
            absurd (false≢true (sym none ∙ ap (has_changed flags) own ∙ flag))),
      ))
      (revised index activity at low bound)

  module _ (propagates : Propagates problem before now) (after : Tracked) where
    pub closed_dies : Dies problem now after → Dies problem before after
    closed_dies dead = record {
      propagates = both_propagate problem before now after propagates dead.propagates;
      empty = dead.empty;
    }

    pub closed_visits : (flags more : Flags) → StaysFull before now
        → Visits problem event now after flags more → Visits problem event before after flags more
    closed_visits flags more full turn = record {
      propagates = both_propagate problem before now after propagates turn.propagates;
      each = turn.each;
      revised = turn.revised;
      fewer = λ other is. fewer other (turn.fewer other is);
      no_more = omega (arith, turn.no_more, so.no_more);
      full = λ was. turn.full (full was);
    }
      where
        fewer : (other : ℕ) → ((has_changed flags other ≡ true) × (other ≡ event → ⊥))
            ⊎ (marks_left after.sets < marks_left now.sets)
            → ((has_changed flags other ≡ true) × (other ≡ event → ⊥))
            ⊎ (marks_left after.sets < marks_left before.sets)
        fewer other (inl was) = inl was
        fewer other (inr less) = inr (omega (arith, less, so.no_more))

    pub closed_result : {E : Type 0} (flags more : Flags) → StaysFull before now
        → (result : Result Bool E) → IfOk result (λ is_dead. MatchBool is_dead
        (Dies problem now after) (Visits problem event now after flags more))
        → IfOk result (λ is_dead. MatchBool is_dead (Dies problem before after)
        (Visits problem event before after flags more))
    closed_result flags more full (Ok true) turn = closed_dies turn
    closed_result flags more full (Ok false) turn = closed_visits flags more full turn
    closed_result flags more full (Err why) turn = tt
