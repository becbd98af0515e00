-- Inner words: what a reader of the rows of a schedule keeps, and what it knows by that.
use Rattle.std.specs.Prelude.{ℕ, ◌≡◌, ◌<◌, is_some, if◌then◌else◌, Bool, true, false, List, ◌++◌}
use Rattle.std.specs.Prelude.{length, get_or, slice_set, drop, map, filter, slice_get, Option, Some}
use Rattle.std.specs.Prelude.{None, option_map, IfSome, Result, Ok, Err}
use Rattle.event_tables.specs.declared.schedule_row.ScheduleRow.{ScheduleRow}
use Rattle.tables.specs.Inputs.{Numbered}
use Rattle.vehicle_model.specs.declared.plan_fault.PlanFault.{PlanFault}
use Rattle.vehicle_model.specs.declared.plan_fault.PlanFault.TheVariants as fault
use Rattle.link_plans.specs.Plans.{next, is_next, AreSuccessors}
use Rattle.vehicle_model.specs.ReadSchedules.{Reading, nothing_read, last_seen, has_seen}
use Rattle.vehicle_model.specs.ReadSchedules.{form_faults, links_in, plan_by, is_late, all_come}
use Rattle.vehicle_model.specs.Trips.{TripsParts, link_minutes}

-- the last row, the last trip, which trips have come, the links so far as a plan, and the second trip
-- of the first link that may not follow
pub record ReaderParts : Type 0 where
  pub before : Option ScheduleRow
  pub last : Option ℕ
  pub come : List Bool
  pub plan : List (Option ℕ)
  pub late : Option ℕ

-- whether a trip has come
abbrev pub has_come : ReaderParts → ℕ → Bool
has_come reader i = get_or reader.come i false

-- a reader over trips
pub record IsOver (trips : TripsParts) (reader : ReaderParts) : Type 0 where
  pub come : length reader.come ≡ length trips.trips
  pub plan : length reader.plan ≡ length trips.trips
  pub last : IfSome reader.last (λ i. i < length trips.trips)

-- the second trip of a link, where it may not follow and none was late before
abbrev pub late_after : TripsParts → ℕ → ℕ → Option ℕ → Option ℕ
late_after trips i j None = if is_some (link_minutes trips i j) then None else Some j
late_after trips i j (Some late) = Some late

-- a reader behind a link
abbrev pub after_link : TripsParts → Option (ℕ × ℕ) → ReaderParts → ReaderParts
after_link trips None reader = reader
after_link trips (Some link) reader = record {
  before = reader.before;
  last = reader.last;
  come = reader.come;
  plan = slice_set reader.plan link.0 (Some link.1);
  late = late_after trips link.0 link.1 reader.late;
}

-- a reader behind a trip
abbrev pub after_trip : Option ℕ → ReaderParts → ReaderParts
after_trip None reader = reader
after_trip (Some j) reader = record {
  before = reader.before;
  last = Some j;
  come = slice_set reader.come j true;
  plan = reader.plan;
  late = reader.late;
}

-- a reader behind a row
abbrev pub after_row : ScheduleRow → ReaderParts → ReaderParts
after_row row reader = record {
  before = Some row;
  last = reader.last;
  come = reader.come;
  plan = reader.plan;
  late = reader.late;
}

-- the second trip of the first link that may not follow
abbrev pub late_of : TripsParts → List (ℕ × ℕ) → Option ℕ
late_of trips links = option_map (λ link. link.1) (slice_get (filter (is_late trips) links) 0)

-- a link that can be added to a plan
pub record CanLink (plan : List (Option ℕ)) (link : ℕ × ℕ) : Type 0 where
  pub from : link.0 < length plan
  pub to : link.1 < length plan
  pub free : next plan link.0 ≡ None
  pub apart : is_next plan link.1 ≡ false

-- a reader knows what was read, and the links
pub record Knows (trips : TripsParts) (read : Reading) (links : List (ℕ × ℕ)) (reader : ReaderParts) : Type 0 where
  pub over : IsOver trips reader
  pub before : reader.before ≡ read.before
  pub last : reader.last ≡ last_seen read
  pub come : (i : ℕ) → has_come reader i ≡ has_seen read i
  pub plan : reader.plan ≡ plan_by (length trips.trips) links
  pub late : reader.late ≡ late_of trips links
  pub successors : AreSuccessors reader.plan
  pub free : (i : ℕ) → reader.last ≡ Some i → next reader.plan i ≡ None
  pub unseen : (k : ℕ) → has_seen read k ≡ false
      → (next reader.plan k ≡ None) × (is_next reader.plan k ≡ false)
  pub follow : reader.late ≡ None → (i j : ℕ) → next reader.plan i ≡ Some j
      → is_some (link_minutes trips i j) ≡ true

-- the same as some reading and some links
abbrev pub KnowsSome : TripsParts → ReaderParts → Type 0
KnowsSome trips reader = (read : Reading) × ((links : List (ℕ × ℕ)) × Knows trips read links reader)

-- behind some of the rows of a schedule: what the rest adds to what was read is what all rows give
pub record IsBehind (trips : TripsParts) (rows : List (Numbered ScheduleRow)) (i : ℕ) (reader : ReaderParts) :
    Type 0 where
  pub read : Reading
  pub links : List (ℕ × ℕ)
  pub knows : Knows trips read links reader
  pub forms : form_faults trips nothing_read rows ≡ form_faults trips read (drop i rows)
  pub linked : links_in trips nothing_read (map (λ at. at.row) rows)
      ≡ links ++ links_in trips read (map (λ at. at.row) (drop i rows))

-- what a reader gives behind all rows
abbrev pub unless_late : ReaderParts → Option ℕ → Result (List (Option ℕ)) PlanFault
unless_late reader None = Ok reader.plan
unless_late reader (Some late) = Err (fault.Follow late)

abbrev pub finished : TripsParts → ReaderParts → Result (List (Option ℕ)) PlanFault
finished trips reader = if all_come trips (has_come reader)
    then unless_late reader reader.late else Err (fault.Trips 0)
