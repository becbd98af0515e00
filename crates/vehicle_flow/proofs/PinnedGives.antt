-- What the call of the stage of a planner's schedule gives, from what its parts are found to be.
use Rattle.plan_num.proofs.Common.{arith, ◌≡◌, ℕ, List, [], ◌∷◌, ◌++◌, length, map, slice_get}
use Rattle.plan_num.proofs.Common.{Option, Some, None, option_map, Ok, Err, refl, ap, sym, ◌∙◌}
use Rattle.plan_num.proofs.Common.{subst, none-some, slice_get-map}
use Rattle.giv_files.specs.declared.made.Made.{Made}
use Rattle.giv_files.proofs.Common.{BundleParts, StageGives, input_text, stage_refused}
use Rattle.tables.specs.declared.refusal.StageFault.{StageFault}
use Rattle.tables.specs.declared.read_fault.RowFault.{RowFault}
use Rattle.tables.proofs.Common.{Refuses, refused_append}
use Rattle.vehicle_model.specs.declared.plan_fault.PlanFault.{PlanFault}
use Rattle.vehicle_model.specs.declared.plan_fault.PlanFault.TheVariants as plan_fault
use Rattle.vehicle_model.specs.ReadSchedules.{plan_faults, plan_of, PlanGives}
use Rattle.vehicle_model.specs.Trips.{TripsParts, links_of}
use Rattle.flow_potentials.specs.declared.potential_fault.PotentialFault.{PotentialFault}
use Rattle.flow_potentials.specs.PotentialFaults.{potential_faults}
use Rattle.link_plans.proofs.Common.{PotentialParts}
use Rattle.flow_potentials.specs.PotentialTables.{potentials_of, table_faults}
use Rattle.vehicle_flow.specs.declared.schedule_fault.ScheduleFault.{ScheduleFault}
use Rattle.vehicle_flow.specs.PinnedSchedules.{marking_potentials, pinned_vehicles_faults}
use Rattle.vehicle_flow.specs.PinnedSchedules.{pinned_vehicles_stage, plan_kept, plan_refusal}
use Rattle.vehicle_flow.specs.PinnedSchedules.{refused_as, unless_broken}
use Rattle.vehicle_flow.specs.ScheduleChecks.{certificate_rules}
use Rattle.vehicle_flow.specs.VehicleStage.{trips_in, vehicles_faults}
use Rattle.vehicle_flow.proofs.FirstRules.{judged_potentials, no_potentials}

-- ---- the plan

-- the first fault of a plan is what is refused
refused_first : (all : List PlanFault) (fault : PlanFault) → slice_get all 0 ≡ Some fault
    → slice_get (map plan_refusal all) 0 ≡ Some (plan_refusal fault)
refused_first all fault is = slice_get-map plan_refusal all 0 ∙ ap (option_map plan_refusal) is

pub plan_refused : (all : List PlanFault) (plan : List (Option ℕ)) (fault : PlanFault) → PlanGives all plan (Err fault)
    → Refuses (map plan_refusal all) (refused_as fault)
plan_refused all plan (plan_fault.Row first) is = refused_first all (plan_fault.Row first) is
plan_refused all plan (plan_fault.Trips row) is = refused_first all (plan_fault.Trips row) is
plan_refused all plan (plan_fault.Follow trip) is = refused_first all (plan_fault.Follow trip) is
plan_refused all plan plan_fault.NoMemory is = tt

-- ---- its potentials

broken_none : (rules : List ScheduleFault) (potentials : PotentialParts) (rule : ScheduleFault)
    → Some rule ≡ slice_get rules 0 → None ≡ unless_broken rules potentials
broken_none [] potentials rule is = absurd (none-some rule (sym is))
broken_none (first ∷ more) potentials rule is = refl

kept_some : (rules : List ScheduleFault) (potentials : PotentialParts) → None ≡ slice_get rules 0
    → Some potentials ≡ unless_broken rules potentials
kept_some [] potentials is = refl
kept_some (first ∷ more) potentials is = absurd (none-some first is)

module _ (trips : TripsParts) (plan : List (Option ℕ)) (text : List ℕ) where
  pub unread_marks_not : (first : RowFault) → slice_get (table_faults (length trips.trips) text) 0 ≡ Some first
      → None ≡ marking_potentials trips plan text
  unread_marks_not first is = broken_none (certificate_rules trips plan (Some text)) (potentials_of text) _
      (no_potentials trips plan text first is)

  module _ (potentials : PotentialParts) (none : table_faults (length trips.trips) text ≡ [])
      (is : potentials ≡ potentials_of text) where
    pub fault_marks_not : (fault : PotentialFault)
        → Some fault ≡ slice_get (potential_faults (links_of trips) plan potentials) 0
        → None ≡ marking_potentials trips plan text
    fault_marks_not fault first = broken_none (certificate_rules trips plan (Some text)) (potentials_of text) _
        (judged_potentials trips plan text potentials none is (Some fault) first)

    pub valid_marks : None ≡ slice_get (potential_faults (links_of trips) plan potentials) 0
        → Some potentials ≡ marking_potentials trips plan text
    valid_marks first = ap Some is ∙ kept_some (certificate_rules trips plan (Some text)) (potentials_of text)
        (judged_potentials trips plan text potentials none is None first)

-- ---- the stage

module _ (bundle : BundleParts) where
  pub inputs_refused : (fault : StageFault) → Refuses (vehicles_faults bundle) fault
      → StageGives (pinned_vehicles_stage bundle) (Err fault)
  unfolding pinned_vehicles_stage
  inputs_refused fault h = stage_refused (pinned_vehicles_faults bundle) _ fault
      (refused_append (vehicles_faults bundle) _ fault h)

  module _ (trips : TripsParts) (none : vehicles_faults bundle ≡ []) (is : trips ≡ trips_in bundle)
      (schedule : List ℕ) (own : schedule ≡ input_text bundle 3) where
    -- the faults of the schedule are those of the bundle then
    faults_left : pinned_vehicles_faults bundle ≡ map plan_refusal (plan_faults trips schedule)
    faults_left = λ i. none i ++ map plan_refusal (plan_faults (sym is i) (sym own i))

    pub schedule_refused : (fault : StageFault) → Refuses (map plan_refusal (plan_faults trips schedule)) fault
        → StageGives (pinned_vehicles_stage bundle) (Err fault)
    unfolding pinned_vehicles_stage
    schedule_refused fault h = stage_refused (pinned_vehicles_faults bundle) _ fault
        (subst (λ faults. Refuses faults fault) (sym faults_left) h)

    pub kept_given : (plan : List (Option ℕ)) (text : List ℕ) (potentials : Option PotentialParts) (made : Made)
        → map plan_refusal (plan_faults trips schedule) ≡ [] → plan ≡ plan_of trips schedule
        → text ≡ input_text bundle 4 → potentials ≡ marking_potentials trips plan text
        → made ≡ plan_kept trips plan potentials → StageGives (pinned_vehicles_stage bundle) (Ok made)
    unfolding pinned_vehicles_stage
    kept_given plan text potentials made fine plan_is text_is found given = grind arith
