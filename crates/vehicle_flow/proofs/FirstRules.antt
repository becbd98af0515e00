-- The first rule that a schedule breaks, from what its parts are found to be.
use Rattle.plan_num.proofs.Common.{arith, ◌≡◌, ℕ, List, [], ◌∷◌, length, map, filter_map, slice_get}
use Rattle.plan_num.proofs.Common.{Option, Some, None, option_map, Result, Ok, Err, IfOk, IfNone}
use Rattle.plan_num.proofs.Common.{refl, ap, ◌∙◌, subst, none-some, same_Some, slice_get-map}
use Rattle.tables.specs.declared.read_fault.RowFault.{RowFault}
use Rattle.vehicle_model.specs.declared.plan_fault.PlanFault.{PlanFault}
use Rattle.vehicle_model.specs.declared.plan_fault.PlanFault.TheVariants as plan_faults
use Rattle.vehicle_model.specs.Plans.{IsCheapest}
use Rattle.link_plans.proofs.Common.{IsPlan, PotentialParts, AreValid}
use Rattle.vehicle_model.specs.ReadSchedules.{plan_faults as faults_of_plan, plan_of, or_others, PlanGives}
use Rattle.vehicle_model.specs.Trips.{TripsParts, links_of}
use Rattle.flow_potentials.specs.declared.potential_fault.PotentialFault.{PotentialFault}
use Rattle.flow_potentials.specs.PotentialTables.{table_faults, potentials_of}
use Rattle.flow_potentials.specs.PotentialFaults.{potential_faults}
use Rattle.flow_potentials.proofs.Checked.{told_valid}
use Rattle.vehicle_flow.specs.declared.schedule_fault.ScheduleFault.{ScheduleFault}
use Rattle.vehicle_flow.specs.declared.schedule_fault.ScheduleFault.TheVariants as rule
use Rattle.vehicle_flow.specs.ScheduleChecks.{plan_rule, potential_rule, certificate_rules}
use Rattle.vehicle_flow.specs.ScheduleChecks.{schedule_fault, IsMark, IsMarked, Passes}

-- ---- the schedule

-- a fault of the schedule comes first
first_rule : (all : List PlanFault) (others : List ScheduleFault) (fault : PlanFault)
    (rule : ScheduleFault) → slice_get all 0 ≡ Some fault → plan_rule fault ≡ Some rule
    → Some rule ≡ slice_get (or_others (filter_map plan_rule all) others) 0
first_rule [] others fault rule first is = absurd (none-some fault first)
first_rule (one ∷ all) others fault rule first is = grind (arith, slice_get, filter_map, same_Some)

module _ (trips : TripsParts) (schedule : List ℕ) (potentials : Option (List ℕ)) where
  pub broken_plan : (fault : PlanFault) (rule : ScheduleFault)
      → PlanGives (faults_of_plan trips schedule) (plan_of trips schedule) (Err fault)
      → plan_rule fault ≡ Some rule → Some rule ≡ schedule_fault trips schedule potentials
  unfolding schedule_fault
  broken_plan (plan_faults.Row first) rule gives is =
      first_rule (faults_of_plan trips schedule) _ (plan_faults.Row first) rule gives is
  broken_plan (plan_faults.Trips row) rule gives is =
      first_rule (faults_of_plan trips schedule) _ (plan_faults.Trips row) rule gives is
  broken_plan (plan_faults.Follow trip) rule gives is =
      first_rule (faults_of_plan trips schedule) _ (plan_faults.Follow trip) rule gives is
  broken_plan plan_faults.NoMemory rule gives is = absurd (none-some rule is)

  -- without one the rules of its potentials are left
  pub certificate_left : faults_of_plan trips schedule ≡ []
      → schedule_fault trips schedule potentials
      ≡ slice_get (certificate_rules trips (plan_of trips schedule) potentials) 0
  unfolding schedule_fault
  certificate_left none = ap (λ all. slice_get (or_others (filter_map plan_rule all)
      (certificate_rules trips (plan_of trips schedule) potentials)) 0) none

  module _ (plan : List (Option ℕ)) (none : faults_of_plan trips schedule ≡ [])
      (is : plan ≡ plan_of trips schedule) where
    pub judged_plan : {E : Type 0} (result : Result (Option ScheduleFault) E)
        → IfOk result (λ found. found ≡ slice_get (certificate_rules trips plan potentials) 0)
        → IfOk result (λ found. found ≡ schedule_fault trips schedule potentials)
    judged_plan (Err error) told = tt
    judged_plan (Ok found) told = grind (arith, slice_get, certificate_left)

    pub passed_plan : {E : Type 0} (result : Result (Option ScheduleFault) E)
        → IsPlan (links_of trips) plan
        → IfOk result (λ found. IfNone found (IsMarked trips plan potentials))
        → IfOk result (λ found. IfNone found (Passes trips schedule potentials))
    passed_plan (Err error) possible told = tt
    passed_plan (Ok (Some fault)) possible told = tt
    passed_plan (Ok None) possible told = grind arith

-- ---- its potentials

first_text : (all : List RowFault) (others : List ScheduleFault) (first : RowFault)
    → slice_get all 0 ≡ Some first
    → Some rule.Potentials ≡ slice_get (or_others (map (λ _. rule.Potentials) all) others) 0
first_text [] others first is = absurd (none-some first is)
first_text (one ∷ all) others first is = refl

module _ (trips : TripsParts) (plan : List (Option ℕ)) (text : List ℕ) where
  -- faults by a count are those by the number of trips
  pub counted : (count : ℕ) → count ≡ length trips.trips → table_faults count text ≡ []
      → table_faults (length trips.trips) text ≡ []
  counted count is none = subst (λ n. table_faults n text ≡ []) is none

  pub counted_first : (count : ℕ) (first : RowFault) → count ≡ length trips.trips
      → slice_get (table_faults count text) 0 ≡ Some first
      → slice_get (table_faults (length trips.trips) text) 0 ≡ Some first
  counted_first count first is found = subst (λ n. slice_get (table_faults n text) 0 ≡ Some first) is found

  pub no_potentials : (first : RowFault) → slice_get (table_faults (length trips.trips) text) 0 ≡ Some first
      → Some rule.Potentials ≡ slice_get (certificate_rules trips plan (Some text)) 0
  no_potentials first is = first_text (table_faults (length trips.trips) text) _ first is

  faults_left : table_faults (length trips.trips) text ≡ []
      → slice_get (certificate_rules trips plan (Some text)) 0
      ≡ option_map potential_rule (slice_get (potential_faults (links_of trips) plan (potentials_of text)) 0)
  faults_left none = grind (arith, slice_get, slice_get-map)

  module _ (potentials : PotentialParts) (none : table_faults (length trips.trips) text ≡ [])
      (is : potentials ≡ potentials_of text) (found : Option PotentialFault)
      (first : found ≡ slice_get (potential_faults (links_of trips) plan potentials) 0) where
    pub judged_potentials : option_map potential_rule found
        ≡ slice_get (certificate_rules trips plan (Some text)) 0
    judged_potentials = grind (arith, option_map, slice_get, faults_left)

    pub passed_potentials : AreValid (links_of trips) plan potentials → IsCheapest trips plan
        → IsMark trips plan text
    passed_potentials valid cheapest = grind arith

  pub judged_fault : (potentials : PotentialParts) → table_faults (length trips.trips) text ≡ []
      → potentials ≡ potentials_of text → (fault : PotentialFault) (rule : ScheduleFault)
      → Some fault ≡ slice_get (potential_faults (links_of trips) plan potentials) 0
      → rule ≡ potential_rule fault
      → Some rule ≡ slice_get (certificate_rules trips plan (Some text)) 0
  judged_fault potentials none is fault rule first same =
      ap Some same ∙ judged_potentials potentials none is (Some fault) first

  -- those that mark a plan break no rule
  pub marked_none : IsMark trips plan text → slice_get (certificate_rules trips plan (Some text)) 0 ≡ None
  marked_none mark = grind (arith, faults_left, option_map, told_valid, slice_get)

-- what passes breaks no rule
pub passes_none : (trips : TripsParts) (schedule : List ℕ) (potentials : Option (List ℕ))
    → Passes trips schedule potentials → schedule_fault trips schedule potentials ≡ None
passes_none trips schedule None passes = elim passes.marked [ ]
passes_none trips schedule (Some text) passes = grind (arith, certificate_left, marked_none)
