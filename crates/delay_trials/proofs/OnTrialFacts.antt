-- What times on trial tell, where one of them, a change or a note is another one.
use Rattle.plan_num.proofs.Common.{◌≡◌, ◌∙◌, ℕ, ℤ, ◌<◌, ◌≤◌, ◌+ℤ◌, ◌&&◌, Bool, false, List, ◌∷◌}
use Rattle.plan_num.proofs.Common.{◌++◌, length, get_or, slice_set, All, Option, None, Some, ap}
use Rattle.plan_num.proofs.Common.{sym, subst, arith, MatchOption, option_to_list, replicate}
use Rattle.plan_num.proofs.Common.{reverse, append-nil, length-reverse, length-set, All-head}
use Rattle.plan_num.proofs.Common.{All-set, All-tail, ints}
use Rattle.propagation.specs.declared.day_event.DayEvent.{DayEvent}
use Rattle.propagation.specs.declared.step.Activity.{Activity}
use Rattle.propagation.specs.declared.times.TheConstants.{LATEST}
use Rattle.propagation.proofs.Common.{delay_at, is_broken, more_delay, time_at}
use Rattle.delay_trials.specs.declared.ends.ChangeEnd.{ChangeEnd}
use Rattle.delay_trials.specs.declared.moved_event.Moved.{Moved}
use Rattle.delay_trials.specs.OnTrial.{AreTested, IsLastMoved, IsOnTrial, TrialTimes}
use Rattle.delay_trials.specs.OpenChanges.{OpenParts}
use Rattle.delay_trials.specs.Stillness.{MayHaveLimits}
use Rattle.delay_trials.proofs.Apart.{set_back, set_there}
use Rattle.delay_trials.proofs.RunningDelay.{Bounded, delay_bounded, later_at}
use Rattle.delay_trials.proofs.Testing.{one_tested, same_size}
use Rattle.delay_trials.proofs.TrialFacts.{reversed}
use Rattle.delay_trials.proofs.Turning.{limits_again}

-- a note is of an event of so many, and of a time that is not too large
abbrev pub IsSound : ℕ → Moved → Type 0
IsSound events moved = (moved.event < events) × (moved.before ≤ LATEST)

-- open changes of the same parts
pub day_is : {day : OpenParts} {changes changes_seen : List Activity} {times times_seen : List ℕ} {open_yet open_seen : List Bool}
    {ends ends_seen : List ChangeEnd}
    → day ≡ record { changes = changes_seen; times = times_seen; open_yet = open_seen; ends = ends_seen }
    → changes_seen ≡ changes → times_seen ≡ times → open_seen ≡ open_yet → ends_seen ≡ ends
    → day ≡ record { changes = changes; times = times; open_yet = open_yet; ends = ends }
day_is is changes times open_yet ends = grind arith

module _ (all : TrialTimes) (ends : List ChangeEnd) (delay : ℤ) (broken : List Bool)
    (first_links first_ends : List ℕ) (shifted : ℕ) (until : List ℕ)
    (on : IsOnTrial all ends delay broken first_links first_ends shifted until) where
  -- a change is open, or it is no more
  pub opened : (change : ℕ) (is : Bool) (new : List Bool) → change < length all.problem.changes
      → ((d : Activity) → new ≡ slice_set broken change
      (get_or (slice_set all.open_yet change is) change false
      && is_broken all.times (get_or all.problem.changes change d)))
      → IsOnTrial (record all {
        open_yet =
            slice_set all.open_yet change is;
      }) ends delay new first_links first_ends shifted until
  opened change is new there told = record {
    linked = on.linked;
    all_ends = on.all_ends;
    in_order = on.in_order;
    each = on.each;
    small = on.small;
    late = on.late;
    flags = length-set all.open_yet change is ∙ on.flags;
    marks = same_size all.problem.changes all.times (slice_set all.open_yet change is) broken new change told
        (record { id = 0; step = record { from = 0; to = 0; lower = 0; extra = 0 } }) ∙ on.marks;
    tested = λ k d inside.
        one_tested all.problem.changes all.times (slice_set all.open_yet change is) broken new change told
        (omega (arith, there, on.marks)) k d
        (λ apart. on.tested k d inside ∙ ap (λ b. b && is_broken all.times (get_or all.problem.changes k d))
        (sym (set_there all.open_yet (slice_set all.open_yet change is) change is false
        (λ i. slice_set all.open_yet change is) k apart)));
    noted = on.noted;
    waits = on.waits;
    links_at = on.links_at;
    ends_at = on.ends_at;
    limits = on.limits;
  }

  -- the time of an event is another one
  pub timed : (event time before : ℕ) (seen : List DayEvent) (d : DayEvent) (more : ℤ) (new : List Bool)
      → event < length all.problem.events → time ≤ LATEST → seen ≡ all.problem.events
      → before ≡ time_at all.times event → more ≡ delay +ℤ more_delay (get_or seen event d) before time
      → AreTested all.problem.changes (slice_set all.times event time) all.open_yet new → length new ≡ length broken
      → (count : ℕ) (limits : List ℕ) → MayHaveLimits all.problem.changes
      (slice_set all.times event time) ends count limits
      → IsOnTrial (record all {
        times =
            slice_set all.times event time;
      }) ends more new first_links first_ends count limits
  timed event time before seen d more new there small events_are before_is told tested size count limits are = record {
    linked = on.linked;
    all_ends = on.all_ends;
    in_order = on.in_order;
    each = length-set all.times event time ∙ on.each;
    small = All-set (λ time. time ≤ LATEST) all.times event time small on.small;
    late = grind (arith, get_or, later_at);
    flags = on.flags;
    marks = size ∙ on.marks;
    tested = tested;
    noted = on.noted;
    waits = on.waits;
    links_at = on.links_at;
    ends_at = on.ends_at;
    limits = are;
  }

  -- and with its time before again, all that was known
  module _ (event time before : ℕ) (before_is : before ≡ time_at all.times event) (day : OpenParts)
      (is : day ≡ record {
        changes = all.problem.changes;
        times = slice_set all.times event time;
        open_yet = all.open_yet;
        ends = ends;
      }) where
    back : all.times ≡ slice_set (slice_set all.times event time) event before
    back = sym (ap (slice_set (slice_set all.times event time) event) before_is ∙ set_back all.times event time 0)

    pub tested_before : AreTested day.changes (slice_set day.times event before) day.open_yet broken
    tested_before = grind (arith, slice_set, back)

    pub limits_before : MayHaveLimits day.changes (slice_set day.times event before) day.ends shifted until
    limits_before = grind (arith, slice_set, back)

  -- all times are other ones
  pub renewed : (times : List ℕ) (late : ℤ) (new : List Bool) → length times ≡ length all.problem.events
      → All (λ time. time ≤ LATEST) times → late ≡ delay_at all.problem.events times
      → AreTested all.problem.changes times all.open_yet new → length new ≡ length broken
      → (zeros : List ℕ) → zeros ≡ replicate (length until) 0
      → IsOnTrial (record all { times = times }) ends late new first_links first_ends shifted zeros
  renewed times late new each small late_is tested size zeros are = record {
    linked = on.linked;
    all_ends = on.all_ends;
    in_order = on.in_order;
    each = each;
    small = small;
    late = late_is;
    flags = on.flags;
    marks = size ∙ on.marks;
    tested = tested;
    noted = on.noted;
    waits = on.waits;
    links_at = on.links_at;
    ends_at = on.ends_at;
    limits = limits_again all.problem.changes all.times times ends shifted until on.limits zeros are;
  }

  pub delay_room : Bounded delay 100000
  delay_room =
      let bounds = delay_bounded all.problem.events all.times
      (λ k inside. let planned = on.linked.late k inside in grind arith) on.small in
      grind (arith, ints)

  -- the last note is taken away
  pub less_noted : (last : Moved) (rest : List Moved) → all.noted ≡ last ∷ rest
      → IsOnTrial (record all { noted = rest }) ends delay broken first_links first_ends shifted until
  less_noted last rest is = record {
    linked = on.linked;
    all_ends = on.all_ends;
    in_order = on.in_order;
    each = on.each;
    small = on.small;
    late = on.late;
    flags = on.flags;
    marks = on.marks;
    tested = on.tested;
    noted = All-tail (IsSound (length all.problem.events)) last rest
        (subst (All (IsSound (length all.problem.events))) is on.noted);
    waits = on.waits;
    links_at = on.links_at;
    ends_at = on.ends_at;
    limits = on.limits;
  }

  pub popped : (old new : List Moved) (result : Option Moved) → all.noted ≡ reverse old
      → old ≡ new ++ option_to_list result → IsOnTrial
      (record all { noted = reverse new }) ends delay broken first_links first_ends shifted until
  popped old new None is parts = grind (arith, append-nil)
  popped old new (Some last) is parts =
      less_noted last (reverse new) (is ∙ ap reverse parts ∙ reversed new last)

  pub last_is : (left : ℕ) (old new : List Moved) (result : Option Moved) → all.noted ≡ reverse old
      → left < length old
      → (n : ℕ) → length old ≡ n → (Q : Type 0) (C : Moved → Type 0) → MatchOption result ((n ≡ 0) × Q) C
      → old ≡ new ++ option_to_list result → IsLastMoved left all (record all { noted = reverse new }) result
  last_is left old new None is more n size Q C none parts = absurd (omega (arith, more, size, none.0))
  last_is left old new (Some last) is more n size Q C some parts =
      let noted = is ∙ ap reverse parts ∙ reversed new last in
      let sound = All-head (IsSound (length all.problem.events)) last (reverse new)
      (subst (All (IsSound (length all.problem.events))) noted on.noted) in grind (
        arith,
        length-reverse,
      )
