-- The rows at which rules of runs are broken.
use Rattle.plan_num.proofs.Common.{◌≡◌, ℕ, ◌+◌, arith, All, List, [], ◌∷◌, length, map, filter}
use Rattle.plan_num.proofs.Common.{drop, get_or, Result, ap, sym, ◌∙◌, flat_map, enumerate_from}
use Rattle.plan_num.proofs.Common.{zip, AllByRecursion, length-map, get_or-map, All-filter, All-map}
use Rattle.plan_num.proofs.Common.{All-append, All-nil, All-from_recursion, get_or-range_with_len}
use Rattle.tables.specs.declared.file_id.FileId.TheVariants as file
use Rattle.tables.specs.declared.refusal.Refusal.{Refusal}
use Rattle.tables.specs.declared.refusal.StageFault.{StageFault}
use Rattle.tables.proofs.Common.{events_p_columns, activities_p_columns, Input, Refuses}
use Rattle.tables.proofs.Common.{UnlessFault, cell_faults, input_faults, records_of, table_of}
use Rattle.tables.proofs.Common.{TableRow, parts_sound, refused_append}
use Rattle.tables.specs.declared.row_why.RowWhy.TheVariants as why
use Rattle.giv_files.proofs.Common.{BundleParts, input_text}
use Rattle.event_tables.specs.declared.periodic_activity.PeriodicActivity.{PeriodicActivity}
use Rattle.event_tables.specs.declared.periodic_event.PeriodicEvent.{PeriodicEvent}
use Rattle.event_tables.proofs.Common.{periodic_activity_input, periodic_event_ids}
use Rattle.event_tables.proofs.Common.{periodic_event_input, neighbours, runs_of, AreNumbered}
use Rattle.event_tables.proofs.Common.{IsOneOf, breaks, broken_in, broken_events, is_stray}
use Rattle.event_tables.proofs.Common.{lacks_way, stray_activities, unjoined_in, unjoined_events}
use Rattle.pesp_model.specs.PespTexts.{activities_of, events_of}
use Rattle.roll_out.specs.RolloutStage.{faults_at, network_in, run_faults}

-- a text without a fault has none in its cells
pub cells_fine : {X : Type 0} (input : Input X) (text : List ℕ) → input_faults input text ≡ []
    → cell_faults input.file input.columns text ≡ []
cells_fine input text none = (parts_sound input text none).0

-- and as many records as rows
pub rows_counted : {X : Type 0} (input : Input X) (text : List ℕ)
    → length (records_of input text) ≡ length (table_of input.columns text)
rows_counted input text = length-map (table_of input.columns text)
    (λ (row : TableRow). input.read row.cells)

pub events_counted : (text : List ℕ) → length (events_of text)
    ≡ length (table_of events_p_columns text)
unfolding events_of
events_counted text = rows_counted periodic_event_input text

pub activities_counted : (events : List PeriodicEvent) (text : List ℕ)
    → length (activities_of events text) ≡ length (table_of activities_p_columns text)
unfolding activities_of
activities_counted events text = rows_counted (periodic_activity_input (periodic_event_ids events))
    text

-- ---- the ids of the things at which a rule is broken

module _ (P : PeriodicEvent → Type 0) where
  enumerated_have : (a : ℕ) (run : List PeriodicEvent) → AllByRecursion P run
      → AllByRecursion (λ (at : ℕ × PeriodicEvent). P at.1) (enumerate_from a run)
  enumerated_have a [] all = tt
  enumerated_have a (event ∷ run) all = (all.0, enumerated_have (a + 1) run all.1)

  zipped_have : (run others : List PeriodicEvent) → AllByRecursion P run
      → AllByRecursion (λ (at : PeriodicEvent × PeriodicEvent). P at.0) (zip run others)
  zipped_have [] others all = tt
  zipped_have (event ∷ run) [] all = tt
  zipped_have (event ∷ run) (other ∷ others) all = (all.0, zipped_have run others all.1)

  broken_have : (run : List PeriodicEvent) → AllByRecursion P run → All P (broken_in run)
  broken_have run all =
      All-map P (λ (at : ℕ × PeriodicEvent). at.1)
      (filter (breaks (length run)) (enumerate_from 0 run))
      (All-filter (breaks (length run)) (λ (at : ℕ × PeriodicEvent). P at.1) (enumerate_from 0 run)
      (All-from_recursion (λ (at : ℕ × PeriodicEvent). P at.1) (enumerate_from 0 run)
      (enumerated_have 0 run all)))

  unjoined_have : (activities : List PeriodicActivity) (run : List PeriodicEvent)
      → AllByRecursion P run
      → All P (unjoined_in activities run)
  unjoined_have activities run all =
      All-map P (λ (at : PeriodicEvent × PeriodicEvent). at.0)
      (filter (lacks_way activities) (neighbours run))
      (All-filter (lacks_way activities) (λ (at : PeriodicEvent × PeriodicEvent). P at.0)
      (neighbours run)
      (All-from_recursion (λ (at : PeriodicEvent × PeriodicEvent). P at.0) (neighbours run)
      (zipped_have run (drop 1 run) all)))

  runs_parts : (part : List PeriodicEvent → List PeriodicEvent)
      → ((run : List PeriodicEvent) → AllByRecursion P run → All P (part run))
      → (runs : List (List PeriodicEvent))
      → AllByRecursion (λ (run : List PeriodicEvent). AllByRecursion P run) runs
      → All P (flat_map part runs)
  runs_parts part has [] all = All-nil P
  runs_parts part has (run ∷ runs) all =
      All-append P (part run) (flat_map part runs) (has run all.0) (runs_parts part has runs all.1)

abbrev pub event_id : PeriodicEvent → ℕ
event_id event = event.id

abbrev pub activity_id : PeriodicActivity → ℕ
activity_id activity = activity.id

module _ (events : List PeriodicEvent)
    (ids : AllByRecursion (λ (run : List PeriodicEvent). AllByRecursion
    (λ (event : PeriodicEvent). IsOneOf (length events) event.id) run) (runs_of events)) where
  pub broken_ids : All (IsOneOf (length events)) (map event_id (broken_events events))
  broken_ids =
      All-map (IsOneOf (length events)) event_id (broken_events events)
      (runs_parts (λ event. IsOneOf (length events) event.id) broken_in
      (broken_have (λ event. IsOneOf (length events) event.id)) (runs_of events) ids)

  pub unjoined_ids : (activities : List PeriodicActivity)
      → All (IsOneOf (length events)) (map event_id (unjoined_events events activities))
  unjoined_ids activities =
      All-map (IsOneOf (length events)) event_id (unjoined_events events activities)
      (runs_parts (λ event. IsOneOf (length events) event.id) (unjoined_in activities)
      (unjoined_have (λ event. IsOneOf (length events) event.id) activities) (runs_of events) ids)

pub stray_ids : (events : List PeriodicEvent) (activities : List PeriodicActivity)
    → AreNumbered (λ activity. activity.id) activities
    → All (IsOneOf (length activities)) (map activity_id (stray_activities events activities))
stray_ids events activities numbered =
    All-map (IsOneOf (length activities)) activity_id (stray_activities events activities)
    (All-filter (is_stray events) (λ activity. IsOneOf (length activities) activity.id) activities
    (λ i d h.
    let at : (get_or activities i d).id ≡ 1 + i =
    sym (get_or-map activity_id activities i d 0 h) ∙ ap (λ ids. get_or ids i 0) numbered
    ∙ get_or-range_with_len 1 (length activities) i 0 h in
    (omega (arith, at), omega (arith, at, h))))

-- ---- the first of them

module _ (bundle : BundleParts) where
  abbrev broken : List ℕ → List Refusal
  broken ids = faults_at file.EventsP events_p_columns (input_text bundle 0) why.BrokenRun ids

  abbrev unjoined : List ℕ → List Refusal
  unjoined ids = faults_at file.EventsP events_p_columns (input_text bundle 0) why.Unjoined ids

  abbrev stray : List ℕ → List Refusal
  stray ids = faults_at file.ActivitiesP activities_p_columns (input_text bundle 1)
      why.StrayActivity ids

  abbrev broken_at : List ℕ
  broken_at = map event_id (broken_events (network_in bundle).events)

  abbrev unjoined_at : List ℕ
  unjoined_at = map event_id (unjoined_events (network_in bundle).events
      (network_in bundle).activities)

  abbrev stray_at : List ℕ
  stray_at = map activity_id (stray_activities (network_in bundle).events
      (network_in bundle).activities)

  -- a broken run
  pub run_refused : (ids : List ℕ) (fault : StageFault) → ids ≡ broken_at
      → Refuses (broken ids) fault
      → Refuses (run_faults bundle) fault
  run_refused ids fault are by = grind (arith, refused_append)

  module _ (first : List ℕ) (first_are : first ≡ broken_at) (first_none : first ≡ []) where
    no_broken : broken broken_at ≡ []
    no_broken = ap broken (sym first_are ∙ first_none)

    -- an event that is not joined
    pub event_refused : (ids : List ℕ) (fault : StageFault) → ids ≡ unjoined_at
        → Refuses (unjoined ids) fault
        → Refuses (run_faults bundle) fault
    event_refused ids fault are by = grind (arith, refused_append, no_broken)

    module _ (second : List ℕ) (second_are : second ≡ unjoined_at) (second_none : second ≡ []) where
      -- a stray activity, or none
      pub activities_told : (ids : List ℕ) (result : Result (Unit {0}) StageFault) → ids ≡ stray_at
          → UnlessFault (stray ids) (λ _. ids ≡ []) result
          → UnlessFault (run_faults bundle) (λ _. run_faults bundle ≡ []) result
      activities_told ids result are by = grind arith
