-- Inner words: what is known of decisions on trial.
use Rattle.std.specs.Prelude.{ℕ, ℤ, ◌≡◌, ◌≢◌, ◌≤◌, ◌<◌, ◌&&◌, ◌⊎◌, Bool, true, false, not, List, [], ◌∷◌, ◌++◌, length}
use Rattle.std.specs.Prelude.{map, get_or, replicate, slice_set, All, Option, Some, None, reverse, ⊤}
use Rattle.std.specs.List.{range_with_len}
use Rattle.std.specs.List.Sorted.{IsNonDecreasingBy}
use Rattle.delay_trials.specs.declared.decided.Decided.{Decided}
use Rattle.delay_trials.specs.declared.ends.ChangeEnd.{ChangeEnd}
use Rattle.propagation.specs.declared.links.Link.{Link}
use Rattle.delay_trials.specs.declared.moved_event.Moved.{Moved}
use Rattle.propagation.specs.declared.step.Activity.{Activity}
use Rattle.propagation.specs.declared.step.Step.{Step}
use Rattle.delay_trials.specs.declared.taken.Taken.{Taken}
use Rattle.delay_trials.specs.ChangeEnds.{AreFirst, HasEnds}
use Rattle.propagation.specs.DayEvents.{forward_rank}
use Rattle.propagation.specs.Lateness.{delay_at, is_broken}
use Rattle.propagation.specs.LeastTimes.{asked, least_times, time_at}
use Rattle.propagation.specs.Links.{IsLinked, counts, head_pushed}
use Rattle.propagation.specs.Problems.{DelayProblem, Joins, earliest_at}
use Rattle.delay_trials.specs.Stillness.{MayHaveLimits}
use Rattle.delay_trials.specs.Trials.{is_decided, is_kept, times_of}
use Rattle.propagation.specs.Waiting.{chosen_changes}
use Rattle.propagation.specs.declared.times.TheConstants.{LATEST}

-- each change is there, and is decided once
unfoldable pub AreOnce : ℕ → List Decided → Type 0
AreOnce count [] = ⊤
AreOnce count (last ∷ before) =
    (last.change < count) × (is_decided before last.change ≡ false) × AreOnce count before

-- whether each of so many changes is kept, and whether it is not decided
abbrev pub kept_flags : ℕ → List Decided → List Bool
kept_flags count decided = map (is_kept decided) (range_with_len 0 count)

abbrev pub open_flags : ℕ → List Decided → List Bool
open_flags count decided = map (λ change. not (is_decided decided change)) (range_with_len 0 count)

-- decisions on a day with these flags, and with the least times of what is kept
pub record IsTrial (problem : DelayProblem) (decided : List Decided) (kept open_yet : List Bool)
    (times : List ℕ) : Type 0 where
  pub once : AreOnce (length problem.changes) decided
  pub flags : kept ≡ kept_flags (length problem.changes) decided
  pub undecided : open_yet ≡ open_flags (length problem.changes) decided
  pub each : length times ≡ length problem.events
  pub told : times ≡ times_of (record { problem = problem; decided = decided })
  pub small : All (λ time. time ≤ 600000000000) times

-- ---- times that are changed on trial

-- a day with its links, its times, which of its changes are open, the events that were made later,
-- the last one first, and which links wait to be looked at
pub record TrialTimes : Type 0 where
  pub problem : DelayProblem
  pub links : List Link
  pub times : List ℕ
  pub open_yet : List Bool
  pub noted : List Moved
  pub waiting : List Bool

abbrev pub seen_trial : DelayProblem → List Link → List ℕ → List Bool → List Moved → List Bool → TrialTimes
seen_trial problem links times open_yet trail waiting = record {
  problem = problem;
  links = links;
  times = times;
  open_yet = open_yet;
  noted = reverse trail;
  waiting = waiting;
}

-- a change is marked where it is open and broken
abbrev pub AreTested : List Activity → List ℕ → List Bool → List Bool → Type 0
AreTested changes times open_yet broken = (k : ℕ) (d : Activity) → k < length changes
    → get_or broken k false ≡ (get_or open_yet k false && is_broken times (get_or changes k d))

-- the same but for the changes that begin or end at an event
abbrev pub AreTestedBut : ℕ → List Activity → List ℕ → List Bool → List Bool → Type 0
AreTestedBut event changes times open_yet broken = (k : ℕ) (d : Activity) → k < length changes
    → (get_or changes k d).step.from ≢ event → (get_or changes k d).step.to ≢ event
    → get_or broken k false ≡ (get_or open_yet k false && is_broken times (get_or changes k d))

-- times on trial with their delay, the marks of open changes that they break, where the links and the
-- ends of changes at each event begin, how far events were moved, all together, and for each 64 ends
-- up to how far their marks stay
pub record IsOnTrial (all : TrialTimes) (ends : List ChangeEnd) (delay : ℤ) (broken : List Bool)
    (first_links first_ends : List ℕ) (shifted : ℕ) (until : List ℕ) : Type 0 where
  pub linked : IsLinked all.problem all.links
  pub all_ends : HasEnds all.problem.changes ends
  pub in_order : IsNonDecreasingBy (λ end. end.event) ends
  pub each : length all.times ≡ length all.problem.events
  pub small : All (λ time. time ≤ LATEST) all.times
  pub late : delay ≡ delay_at all.problem.events all.times
  pub flags : length all.open_yet ≡ length all.problem.changes
  pub marks : length broken ≡ length all.problem.changes
  pub tested : AreTested all.problem.changes all.times all.open_yet broken
  pub noted : All (λ moved. (moved.event < length all.problem.events)
      × (moved.before ≤ LATEST)) all.noted
  pub waits : length all.waiting ≡ length all.links
  pub links_at : AreFirst (λ link. link.rank) all.links (forward_rank all.problem.events)
      (length all.problem.events) first_links
  pub ends_at : AreFirst (λ end. end.event) ends (λ event. event)
      (length all.problem.events) first_ends
  pub limits : MayHaveLimits all.problem.changes all.times ends shifted until

-- times as they were before events were made later, the last one first
abbrev pub rewound : List Moved → List ℕ → List ℕ
rewound [] times = times
rewound (last ∷ before) times = rewound before (slice_set times last.event last.before)

-- between the times at first and those where so many events that were made later are left
abbrev pub IsUndoing : ℕ → TrialTimes → TrialTimes → Type 0
IsUndoing left old new = (top rest : List Moved) → old.noted ≡ top ++ rest → length rest ≡ left
    → (more : List Moved) × (new ≡ record old { times = new.times; noted = more ++ rest })
    × (rewound more new.times ≡ rewound top old.times)

-- the same where notes are only dropped
abbrev pub IsDropping : ℕ → TrialTimes → TrialTimes → Type 0
IsDropping left old new = (top rest : List Moved) → old.noted ≡ top ++ rest → length rest ≡ left
    → (more : List Moved) × (new ≡ record old { noted = more ++ rest })

-- the times before can be had again
abbrev pub CanGoBack : TrialTimes → TrialTimes → Type 0
CanGoBack old new = (top : List Moved) × (new.noted ≡ top ++ old.noted)
    × (rewound top new.times ≡ old.times)

-- what follows where events are made later
pub record Follows (old new : TrialTimes) : Type 0 where
  pub problem : new.problem ≡ old.problem
  pub links : new.links ≡ old.links
  pub open_yet : new.open_yet ≡ old.open_yet
  pub back : CanGoBack old new

-- a link that counts has its minutes
abbrev pub IsHeld : List Bool → List ℕ → Link → Type 0
IsHeld kept times link =
    counts kept link.change ≡ true → asked times link.step ≤ time_at times link.step.to

-- times on the way to the least ones where some changes are kept, and links before one that do not
-- wait: no time is below the earliest or above the least one, and links that do not wait hold
pub record IsSettling (kept : List Bool) (all : TrialTimes) (from : ℕ) : Type 0 where
  pub earliest : (event : ℕ) → event < length all.problem.events
      → earliest_at all.problem event ≤ time_at all.times event
  pub most : (event : ℕ) → event < length all.problem.events → time_at all.times event
      ≤ time_at (least_times all.problem (chosen_changes all.problem kept)) event
  pub held : (k : ℕ) (d : Link) → k < length all.links → get_or all.waiting k false ≡ false
      → IsHeld kept all.times (get_or all.links k d)
  pub done : (k : ℕ) → k < from → get_or all.waiting k false ≡ false

-- no link waits
abbrev pub NoneWaits : TrialTimes → Type 0
NoneWaits all = (k : ℕ) → get_or all.waiting k false ≡ false

-- the same where none waits, and links with one step alone may not hold
pub record IsSettlingBut (kept : List Bool) (step : Step) (all : TrialTimes) : Type 0 where
  pub linked : IsLinked all.problem all.links
  pub each : length all.times ≡ length all.problem.events
  pub joins : Joins (length all.problem.events) step
  pub rises : forward_rank all.problem.events step.from < forward_rank all.problem.events step.to
  pub small : asked all.times step ≤ LATEST
  pub holds : asked (least_times all.problem (chosen_changes all.problem kept)) step
      ≤ time_at (least_times all.problem (chosen_changes all.problem kept)) step.to
  pub earliest : (event : ℕ) → event < length all.problem.events
      → earliest_at all.problem event ≤ time_at all.times event
  pub most : (event : ℕ) → event < length all.problem.events → time_at all.times event
      ≤ time_at (least_times all.problem (chosen_changes all.problem kept)) event
  pub held : (k : ℕ) (d : Link) → k < length all.links
      → ((get_or all.links k d).step ≡ step) ⊎ IsHeld kept all.times (get_or all.links k d)
  pub none : NoneWaits all

-- the links of a kind wait besides others
pub record WaitBy (P : Link → Type 0) (links : List Link) (old new : List Bool) : Type 0 where
  pub size : length new ≡ length old
  pub out : (k : ℕ) (d : Link) → k < length links → get_or new k false ≡ false
      → (get_or old k false ≡ false) × (P (get_or links k d) → ⊥)
  pub only : (k : ℕ) (d : Link) → get_or old k false ≡ false
      → (get_or new k false ≡ false) ⊎ ((k < length links) × P (get_or links k d))

-- what follows where the head of a step is no earlier than the step asks: where it is later, the
-- links out of it wait
pub record Pushes (step : Step) (old new : TrialTimes) : Type 0 where
  pub follows : Follows old new
  pub times : new.times ≡ head_pushed old.times step
  pub waits : (new ≡ old) ⊎ WaitBy (λ link. link.rank ≡ forward_rank old.problem.events step.to)
      old.links old.waiting new.waiting

-- the first change that is open and broken
abbrev pub TellsBroken : TrialTimes → Option ℕ → Type 0
TellsBroken all None = (k : ℕ) (d : Activity) → k < length all.problem.changes
    → (get_or all.open_yet k false && is_broken all.times (get_or all.problem.changes k d)) ≡ false
TellsBroken all (Some at) = (at < length all.problem.changes)
    × ((k : ℕ) (d : Activity) → k < at
    → (get_or all.open_yet k false && is_broken all.times (get_or all.problem.changes k d)) ≡ false)
    × ((d : Activity)
    → (get_or all.open_yet at false && is_broken all.times (get_or all.problem.changes at d)) ≡ true)

-- the event that was made later last is no more noted, where more than so many are
abbrev pub IsLastMoved : ℕ → TrialTimes → TrialTimes → Option Moved → Type 0
IsLastMoved left old new None = (new ≡ old) × (length old.noted ≤ left)
IsLastMoved left old new (Some last) = (left < length old.noted)
    × (last.event < length old.problem.events) × (last.before ≤ LATEST)
    × (old ≡ record new { noted = last ∷ new.noted })

-- times on trial before anything is decided
pub record StartsTrial (problem : DelayProblem) (all : TrialTimes) : Type 0 where
  pub problem_is : all.problem ≡ problem
  pub linked : IsLinked all.problem all.links
  pub times : all.times ≡ least_times problem (chosen_changes problem [])
  pub least_small : All (λ time. time ≤ 600000000000) all.times
  pub open_yet : all.open_yet ≡ replicate (length problem.changes) true
  pub noted : all.noted ≡ []
  pub none : NoneWaits all

-- the last notes are dropped until so many are left, or all of them stay
abbrev pub DropsNotes : ℕ → Bool → TrialTimes → TrialTimes → Type 0
DropsNotes left true old new = new ≡ old
DropsNotes left false old new = (top rest : List Moved) → old.noted ≡ top ++ rest
    → length rest ≡ left → new ≡ record old { noted = rest }

-- the times before a decision are back: from its notes, or as the least ones of what is kept
abbrev pub GoesBackBy : Bool → ℕ → List Bool → TrialTimes → TrialTimes → Type 0
GoesBackBy true left kept old new = (top rest : List Moved) → old.noted ≡ top ++ rest
    → length rest ≡ left → new ≡ record old { times = rewound top old.times; noted = rest }
GoesBackBy false left kept old new = new ≡ record old {
  times = least_times old.problem (chosen_changes old.problem kept);
}

abbrev pub GoesBack : Taken → List Bool → TrialTimes → TrialTimes → Type 0
GoesBack last kept old new = GoesBackBy last.is_noted last.moved kept old new

-- what is decided, the last decision first
abbrev pub decided_in : List Taken → List Decided
decided_in taken = map (λ last. last.decided) taken

-- the notes of a decision give the times before it, or there are none
abbrev pub Gives : Bool → List Moved → List ℕ → List ℕ → Type 0
Gives true noted times before = rewound noted times ≡ before
Gives false noted times before = noted ≡ []

-- the times behind fewer decisions can be had again, where their decisions are noted
unfoldable pub AreSaved : DelayProblem → List Taken → List Moved → List ℕ → Type 0
AreSaved problem [] noted times = ⊤
AreSaved problem (last ∷ before) noted times = (top rest : List Moved) × (noted ≡ top ++ rest)
    × (length rest ≡ last.moved)
    × Gives last.is_noted top times (times_of (record { problem = problem; decided = decided_in before }))
    × AreSaved problem before rest
    (times_of (record { problem = problem; decided = decided_in before }))

-- decisions with their times on trial
pub record IsTaken (all : TrialTimes) (taken : List Taken) (kept : List Bool) : Type 0 where
  pub linked : IsLinked all.problem all.links
  pub trial : IsTrial all.problem (decided_in taken) kept all.open_yet all.times
  pub saved : AreSaved all.problem taken all.noted all.times
  pub rest : NoneWaits all
