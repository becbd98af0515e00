-- The files of expanded events and of expanded activities, and their rules.
use Rattle.std.specs.Prelude.{ℕ, ◌≡◌, ◌≤◌, true, false, not, List, [], ◌∷◌, length, map, All}
use Rattle.tables.specs.declared.counted.Counted.TheVariants as counted
use Rattle.tables.specs.declared.file_id.FileId.TheVariants as file
use Rattle.tables.specs.declared.row_why.RowWhy.TheVariants as why
use Rattle.tables.specs.Columns.{events_x_columns, activities_x_columns}
use Rattle.tables.specs.Inputs.{Input, RowRule, row_limit}
use Rattle.tables.specs.Writing.{InColumns}
use Rattle.event_tables.specs.declared.expanded_activity.ExpandedActivity.{ExpandedActivity}
use Rattle.event_tables.specs.declared.expanded_event.ExpandedEvent.{ExpandedEvent}
use Rattle.event_tables.specs.Cells.{expanded_event, expanded_activity, expanded_event_cells, expanded_activity_cells}
use Rattle.event_tables.specs.ForwardOrder.{goes_forward}
use Rattle.event_tables.specs.Kinds.{is_sync}
use Rattle.event_tables.specs.Places.{own_place, known_ends, bounds_in_order, AreNumbered, IsOneOf}

-- the file of expanded events, which are numbered in their order
abbrev pub expanded_event_input : Input ExpandedEvent
expanded_event_input = record {
  file = file.EventsX;
  columns = events_x_columns;
  read = expanded_event;
  limits = row_limit counted.ExpandedEvents 100000 ∷ [];
  row_rules = own_place (λ event. event.id) ∷ [];
  table_rules = [];
}

-- the ids of expanded events
abbrev pub expanded_event_ids : List ExpandedEvent → List ℕ
expanded_event_ids events = map (λ event. event.id) events

-- the rule that no activity is a sync
abbrev pub no_sync : RowRule ExpandedActivity
no_sync = record { is_broken = λ _ row. is_sync row.kind; why = why.StraySync }

-- the rule that an activity goes forward
abbrev pub forward : List ExpandedEvent → RowRule ExpandedActivity
forward events =
    record { is_broken = λ _ row. not (goes_forward events row.from row.to); why = why.Backward }

-- the rules of an expanded activity over the events, in their order
abbrev pub expanded_activity_rules : List ExpandedEvent → List (RowRule ExpandedActivity)
expanded_activity_rules events =
    own_place (λ row. row.id)
    ∷ known_ends (expanded_event_ids events) (λ row. row.from) (λ row. row.to)
    ∷ bounds_in_order (λ row. row.lower) (λ row. row.upper) ∷ no_sync ∷ forward events ∷ []

-- the file of expanded activities over the events; they are numbered in their order too
abbrev pub expanded_activity_input : List ExpandedEvent → Input ExpandedActivity
expanded_activity_input events = record {
  file = file.ActivitiesX;
  columns = activities_x_columns;
  read = expanded_activity;
  limits = row_limit counted.ExpandedActivities 500000 ∷ [];
  row_rules = expanded_activity_rules events;
  table_rules = [];
}

-- the ids of expanded activities
abbrev pub expanded_activity_ids : List ExpandedActivity → List ℕ
expanded_activity_ids activities = map (λ activity. activity.id) activities

-- what holds of expanded events: ids are places, there are not too many, and each fits its row
pub record AreExpandedEvents (events : List ExpandedEvent) : Type 0 where
  pub numbered : AreNumbered (λ event. event.id) events
  pub few : length events ≤ 100000
  pub fit : All (λ event. InColumns events_x_columns (expanded_event_cells event)) events

-- an activity that goes forward between two events, with bounds in order, and is no sync
pub record IsExpandedActivity (events : List ExpandedEvent) (activity : ExpandedActivity) : Type 0 where
  pub from : IsOneOf (length events) activity.from
  pub to : IsOneOf (length events) activity.to
  pub in_order : activity.lower ≤ activity.upper
  pub no_sync : is_sync activity.kind ≡ false
  pub forward : goes_forward events activity.from activity.to ≡ true

-- what holds of expanded activities between events
pub record AreExpandedActivities (events : List ExpandedEvent) (activities : List ExpandedActivity) : Type 0 where
  pub numbered : AreNumbered (λ activity. activity.id) activities
  pub few : length activities ≤ 500000
  pub each : All (IsExpandedActivity events) activities
  pub fit : All (λ row. InColumns activities_x_columns (expanded_activity_cells row)) activities
