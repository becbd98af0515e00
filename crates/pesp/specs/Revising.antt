-- Inner words: sets of times by a test of events and times, and what revising them by activities
-- does.
use Rattle.std.specs.Prelude.{nat_le, nat_lt, slice_index_or, Contains, ◌++◌, ◌≡◌, ◌⊎◌, ℕ, zero}
use Rattle.std.specs.Prelude.{suc, ◌+◌, ◌-◌, ◌%◌, ◌<◌, ◌≤◌}
use Rattle.std.specs.Prelude.{min, ◌==◌, not, Bool, true, false, ◌||◌, ◌&&◌}
use Rattle.std.specs.Prelude.{if◌then◌else◌, ⊤, [], ◌∷◌, List, length, filter, slice_get}
use Rattle.std.specs.Prelude.{slice_set, Some, All, unsigned_abs, ◌-ℤ◌}
use Rattle.std.specs.List.{list_any, range_with_len}
use Rattle.bit_rows.specs.Bits.{marked}
use Rattle.pesp.specs.declared.activity.PespActivity.{PespActivity}
use Rattle.pesp.specs.declared.activity_end.ActivityEnd.{ActivityEnd}
use Rattle.pesp.specs.declared.activity_end.ActivityEnd.TheVariants as at
use Rattle.pesp.specs.Timetables.{Problem, keeps}
use Rattle.pesp.specs.Flags.{Flags, has_changed, some_changed}
use Rattle.pesp.specs.Listings.{is_empty}
use Rattle.pesp.specs.Marks.{IsSettled, Marks, Saved, Tracked, any_below, is_left}
use Rattle.pesp.specs.Marks.{marks_left, sets_of, times_from}
use Rattle.pesp.specs.TimeSets.{reduced}

-- which times are left to which events
abbrev pub Left : Type 0
Left = ℕ → ℕ → Bool

-- the times of one event that have a bit stay, and those of all others
abbrev pub stays : ℕ → List ℕ → Left
stays kept keep event time = not (event == kept) || marked keep time

-- the number of those below a number for which it holds
unfoldable pub count_below : (ℕ → Bool) → ℕ → ℕ
count_below test zero = 0
count_below test (suc n) = count_below test n + (if test n then 1 else 0)

-- no bit behind a period is set
abbrev pub IsClear : ℕ → List ℕ → Type 0
IsClear period times = (time : ℕ) → period ≤ time → marked times time ≡ false

-- a time of a period has a bit so many minutes behind it
abbrev pub turned_to : ℕ → List ℕ → ℕ → ℕ → Bool
turned_to period times by time = nat_lt time period && marked times ((time + by) % period)

-- a time is left in a window of a period that opens so many minutes behind another time
abbrev pub reaches : ℕ → (ℕ → Bool) → ℕ → ℕ → ℕ → Bool
reaches period left offset width time =
    any_below (λ minutes. left ((time + offset + minutes) % period)) (width + 1)

-- by how much an activity may take longer than its lower bound, up to a whole period
abbrev pub width_of : ℕ → PespActivity → ℕ
width_of period activity = min (unsigned_abs (activity.upper -ℤ activity.lower)) (period - 1)

-- where the windows of its second times open behind its first ones, and the other way round
abbrev pub ahead : ℕ → PespActivity → ℕ
ahead period activity = unsigned_abs activity.lower % period

abbrev pub behind : ℕ → PespActivity → ℕ
behind period activity =
    period - (unsigned_abs activity.lower + width_of period activity) % period

-- the event at an end of an activity, and the end on the other side
abbrev pub event_at : PespActivity → ActivityEnd → ℕ
event_at activity at.First = activity.from
event_at activity at.Second = activity.to

abbrev pub other_end : ActivityEnd → ActivityEnd
other_end at.First = at.Second
other_end at.Second = at.First

-- where the windows of the partners of a time open behind it, by the end at which it is
abbrev pub opens_behind : ℕ → PespActivity → ActivityEnd → ℕ
opens_behind period activity at.First = ahead period activity
opens_behind period activity at.Second = behind period activity

-- whether a time at an end and one at the other end keep an activity
abbrev pub are_partners : ℕ → PespActivity → ActivityEnd → ℕ → ℕ → Bool
are_partners period activity at.First time = λ other. keeps period activity time other
are_partners period activity at.Second time = λ other. keeps period activity other time

-- a time at an end has a partner that is left to the event at the other end
abbrev pub is_partnered : ℕ → Left → PespActivity → ActivityEnd → ℕ → Bool
is_partnered period left activity end time =
    list_any (are_partners period activity end time)
    (filter (left (event_at activity (other_end end))) (range_with_len 0 period))

-- the times without a partner are taken out of the set of the event at an end
abbrev pub keeps_partnered : ℕ → Left → PespActivity → ActivityEnd → Left
keeps_partnered period left activity end event time =
    not (event == event_at activity end) || is_partnered period left activity end time

-- no time of either event of an activity is without a partner
abbrev pub IsRevised : ℕ → Left → PespActivity → Type 0
IsRevised period left activity = (end : ActivityEnd) (time : ℕ)
    → left (event_at activity end) time ≡ true → is_partnered period left activity end time ≡ true

-- each time that is left on one side is left on the other
abbrev pub IsWithin : Left → Left → Type 0
IsWithin left others = (event time : ℕ) → left event time ≡ true → others event time ≡ true

-- Sets are made smaller, and none in which all activities are revised is lost.
pub record Propagates (problem : Problem) (before after : Tracked) : Type 0 where
  pub period : after.sets.columns ≡ before.sets.columns
  pub events : after.sets.rows ≡ before.sets.rows
  pub saved : after.saved ≡ before.saved
  pub within : IsWithin (is_left after.sets) (is_left before.sets)
  pub keeps : (left : Left) → All (IsRevised problem.period left) problem.activities
      → IsWithin left (is_left before.sets) → IsWithin left (is_left after.sets)

-- the flags where that of an event is set if its set has changed
abbrev pub noted : Flags → ℕ → Bool → Flags
noted flags event is_changed = if is_changed then slice_set flags event true else flags

-- the times of the event at an end have their partners unless the set of the event at the other end
-- has changed
abbrev pub PartneredUnless : ℕ → Left → (ℕ → Bool) → PespActivity → ActivityEnd → Type 0
PartneredUnless period left changed activity end =
    changed (event_at activity (other_end end)) ≡ false → (time : ℕ)
    → left (event_at activity end) time ≡ true → is_partnered period left activity end time ≡ true

abbrev pub RevisedUnless : ℕ → Left → (ℕ → Bool) → PespActivity → Type 0
RevisedUnless period left changed activity =
    (end : ActivityEnd) → PartneredUnless period left changed activity end

-- the same of all activities from an index on
abbrev pub AllFrom : List PespActivity → (PespActivity → Type 0) → ℕ → Type 0
AllFrom activities Holds from = (index : ℕ) (activity : PespActivity)
    → slice_get activities index ≡ Some activity → from ≤ index → Holds activity

-- whether it is an event or has a flag
abbrev pub either : ℕ → Flags → ℕ → Bool
either at flags event = (event == at) || has_changed flags event

-- any two times keep an activity
abbrev pub is_free : ℕ → PespActivity → Bool
is_free period activity = nat_le period (width_of period activity + 1)

-- an activity that is not free has its partners unless the set of one of its events has changed
abbrev pub BoundUnless : ℕ → Left → (ℕ → Bool) → PespActivity → Type 0
BoundUnless period left changed activity =
    is_free period activity ≡ false → RevisedUnless period left changed activity

-- no time is left to some event
abbrev pub HasEmpty : Marks → Type 0
HasEmpty sets = list_any is_empty (sets_of sets) ≡ true

-- times are left to all events, and still are where they were before
abbrev pub IsFull : Marks → Type 0
IsFull sets = list_any is_empty (sets_of sets) ≡ false

abbrev pub StaysFull : Tracked → Tracked → Type 0
StaysFull before after = IsFull before.sets → IsFull after.sets

-- An activity makes the sets of its events smaller. Where the set of an event is not said to have
-- changed it has not.
pub record Touches (activity : PespActivity) (before after : Tracked) (flags more : Flags)
    : Type 0 where
  pub period : after.sets.columns ≡ before.sets.columns
  pub events : after.sets.rows ≡ before.sets.rows
  pub saved : after.saved ≡ before.saved
  pub within : IsWithin (is_left after.sets) (is_left before.sets)
  pub keeps : (left : Left) → IsRevised before.sets.columns left activity
      → IsWithin left (is_left before.sets) → IsWithin left (is_left after.sets)
  pub each : length more ≡ length flags
  pub untouched : (event : ℕ) → has_changed more event ≡ false
      → (has_changed flags event ≡ false) × (is_left after.sets event ≡ is_left before.sets event)
  pub fewer : (event : ℕ) → has_changed more event ≡ true
      → (has_changed flags event ≡ true) ⊎ (marks_left after.sets < marks_left before.sets)
  pub no_more : marks_left after.sets ≤ marks_left before.sets

-- an activity between two events leaves the set of the event whose set had changed as it was
abbrev pub KeepsOwn : PespActivity → ℕ → Tracked → Tracked → Type 0
KeepsOwn activity at before after = (activity.from ≡ activity.to → ⊥)
    → times_from after.sets at 0 ≡ times_from before.sets at 0

-- it revises them at one end or at both, where one of its events is the one whose set has changed
abbrev pub RevisesEnd : PespActivity → ActivityEnd → ℕ → Tracked → Tracked → Flags → Flags → Type 0
RevisesEnd activity end at before after flags more =
    Touches activity before after flags more
    × (PartneredUnless before.sets.columns (is_left before.sets) (either at flags) activity end
    → PartneredUnless before.sets.columns (is_left after.sets) (has_changed more) activity end)

abbrev pub Revises : PespActivity → ℕ → Tracked → Tracked → Flags → Flags → Type 0
Revises activity at before after flags more =
    Touches activity before after flags more
    × (RevisedUnless before.sets.columns (is_left before.sets) (either at flags) activity
    → RevisedUnless before.sets.columns (is_left after.sets) (has_changed more) activity)

-- what the activities at an event leave where it loses its flag: smaller sets, of which flags tell
-- where they changed, and fewer marks where there are more flags
pub record Visits (problem : Problem) (event : ℕ) (before after : Tracked) (flags more : Flags)
    : Type 0 where
  pub propagates : Propagates problem before after
  pub each : length more ≡ length flags
  pub revised : AllFrom problem.activities
      (BoundUnless problem.period (is_left after.sets) (has_changed more)) 0
  pub fewer : (other : ℕ) → has_changed more other ≡ true
      → ((has_changed flags other ≡ true) × (other ≡ event → ⊥))
      ⊎ (marks_left after.sets < marks_left before.sets)
  pub no_more : marks_left after.sets ≤ marks_left before.sets
  pub full : StaysFull before after

-- sets are made smaller until no time is left to some event
pub record Dies (problem : Problem) (before after : Tracked) : Type 0 where
  pub propagates : Propagates problem before after
  pub empty : HasEmpty after.sets

-- what a sweep leaves: smaller sets, of which it tells where they changed, and fewer marks where
-- they did
pub record Sweeps (problem : Problem) (before after : Tracked) (changed : Flags) : Type 0 where
  pub propagates : Propagates problem before after
  pub each : length changed ≡ problem.events
  pub revised : AllFrom problem.activities
      (BoundUnless problem.period (is_left after.sets) (has_changed changed)) 0
  pub fewer : some_changed changed ≡ true → marks_left after.sets < marks_left before.sets
  pub no_more : marks_left after.sets ≤ marks_left before.sets
  pub full : StaysFull before after

-- reduced sets: these, or some sets in which no time is left to some event where none is in these
abbrev pub Stands : Problem → Tracked → Tracked → Type 0
Stands problem before after =
    (HasEmpty after.sets × (list_any is_empty (reduced problem (sets_of before.sets)) ≡ true))
    ⊎ ((sets_of after.sets ≡ reduced problem (sets_of before.sets))
    × AllFrom problem.activities (IsRevised problem.period (is_left after.sets)) 0)

-- sets are reduced
pub record Reduces (problem : Problem) (before after : Tracked) : Type 0 where
  pub period : after.sets.columns ≡ before.sets.columns
  pub events : after.sets.rows ≡ before.sets.rows
  pub saved : after.saved ≡ before.saved
  pub within : IsWithin (is_left after.sets) (is_left before.sets)
  pub stands : Stands problem before after

-- ---- activities by their events

-- an index is noted at an event
abbrev pub NotesAt : ℕ → ℕ → List (List ℕ) → List (List ℕ) → Type 0
NotesAt event index old new = new ≡ slice_set old event (slice_index_or old event [] ++ index ∷ [])

-- the index of an activity is noted at both of its events unless it is free
abbrev pub NotesActivity : ℕ → PespActivity → ℕ → List (List ℕ) → List (List ℕ) → Type 0
NotesActivity period activity index old new =
    ((is_free period activity ≡ true) × (new ≡ old))
    ⊎ ((first : List (List ℕ)) × NotesAt activity.from index old first
    × NotesAt activity.to index first new)

-- of each event the indexes of the activities at it that are not free
pub record AreLinks (problem : Problem) (count : ℕ) (rows : List (List ℕ)) : Type 0 where
  pub size : length rows ≡ problem.events
  pub within : (event index : ℕ) → Contains (slice_index_or rows event []) index → index < count
  pub all : (index : ℕ) (activity : PespActivity)
      → slice_get problem.activities index ≡ Some activity → index < count
      → is_free problem.period activity ≡ false
      → Contains (slice_index_or rows activity.from []) index
      × Contains (slice_index_or rows activity.to []) index

-- indexes are those of all activities at an event that are not free
pub record AreLinksAt (problem : Problem) (event : ℕ) (indexes : List ℕ) : Type 0 where
  pub within : All (λ index. index < length problem.activities) indexes
  pub from : (index : ℕ) (activity : PespActivity)
      → slice_get problem.activities index ≡ Some activity → is_free problem.period activity ≡ false
      → activity.from ≡ event → Contains indexes index
  pub to : (index : ℕ) (activity : PespActivity)
      → slice_get problem.activities index ≡ Some activity → is_free problem.period activity ≡ false
      → activity.to ≡ event → Contains indexes index

-- all activities are revised in each of the sets that were saved, times are left to all events, and
-- no event before that of the branch has several
abbrev pub AreRevised : Problem → List Saved → Type 0
AreRevised problem [] = ⊤
AreRevised problem (saved ∷ earlier) =
    AllFrom problem.activities (IsRevised problem.period (is_left saved.sets)) 0
    × IsFull saved.sets
    × IsSettled saved.sets saved.branch.event
    × AreRevised problem earlier

-- sets are ready for an entry: activities are revised unless the set of one of their events is
-- said to have changed, times are left to all events, and so it is in all saved sets
pub record IsReady (problem : Problem) (sets : Tracked) (flags : Flags) : Type 0 where
  pub each : length flags ≡ problem.events
  pub revised : AllFrom problem.activities
      (RevisedUnless problem.period (is_left sets.sets) (has_changed flags)) 0
  pub full : IsFull sets.sets
  pub saved : AreRevised problem sets.saved
