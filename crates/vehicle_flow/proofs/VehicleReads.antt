-- The files of the stage are right, from what is known of the chosen plan.
use Rattle.plan_num.proofs.Common.{◌≡◌, ℕ, List, [], Option, Some, Ok, sym, subst, arith}
use Rattle.giv_files.specs.declared.made.Made.{Made}
use Rattle.giv_files.proofs.Common.{BundleParts, made_unless, none_unless}
use Rattle.vehicle_model.specs.Plans.{chosen_plan, IsChosen}
use Rattle.link_plans.proofs.Common.{IsPlan, PotentialParts}
use Rattle.vehicle_model.specs.ReadSchedules.{IsReadBack}
use Rattle.vehicle_model.specs.Schedules.{plan_text}
use Rattle.vehicle_model.specs.Trips.{TripsParts, links_of}
use Rattle.vehicle_model.proofs.PlanBack.{plan_text_back}
use Rattle.flow_potentials.specs.PotentialTables.{potentials_text, IsReadBack as IsPotentialBack}
use Rattle.canonical_potentials.specs.Rounds.{canonical}
use Rattle.flow_potentials.proofs.TablesBack.{text_back}
use Rattle.vehicle_flow.specs.RightVehicles.{VehicleFilesAreRight}
use Rattle.vehicle_flow.specs.ScheduleChecks.{Passes}
use Rattle.vehicle_flow.specs.SettledPlans.{IsSettled}
use Rattle.vehicle_flow.specs.VehicleStage.{trips_in, vehicles_faults, vehicles_made, vehicles_stage}
use Rattle.vehicle_flow.proofs.FirstRules.{passes_none}
use Rattle.vehicle_flow.proofs.ScheduleAccepted.{plan_accepted}

module _ (bundle : BundleParts) (none : vehicles_faults bundle ≡ [])
    (settled : IsSettled (trips_in bundle) (chosen_plan (trips_in bundle))) where
  abbrev trips : TripsParts
  trips = trips_in bundle

  abbrev plan : List (Option ℕ)
  plan = chosen_plan trips

  abbrev potentials : PotentialParts
  potentials = canonical (links_of trips) plan

  abbrev schedule : List ℕ
  schedule = plan_text trips plan

  abbrev text : List ℕ
  text = potentials_text potentials

  possible : IsPlan (links_of trips) plan
  possible = settled.chosen.cheapest.possible

  back : IsReadBack trips plan schedule
  back = plan_text_back trips plan settled.are possible

  again : IsPotentialBack potentials text
  again = text_back potentials settled.small
      (omega (arith, settled.valid.over.each_u, settled.are.rows.few))

  passes : Passes trips schedule (Some text)
  passes = grind (arith, back, possible, again)

  pub made_right : VehicleFilesAreRight bundle (vehicles_made trips plan).files
  made_right = record {
    right = grind (arith, passes);
    chosen = subst (IsChosen trips) (sym back.same) settled.chosen;
    canonical = grind (arith, back, again);
    passes = passes_none trips schedule (Some text) passes;
    accepted = plan_accepted trips plan settled.are possible;
  }

-- what the stage makes is right
pub vehicles_right : (bundle : BundleParts) (made : Made)
    → IsSettled (trips_in bundle) (chosen_plan (trips_in bundle)) → vehicles_stage bundle ≡ Ok made
    → VehicleFilesAreRight bundle made.files
unfolding vehicles_stage
vehicles_right bundle made settled is = grind (arith, made_unless, made_right, none_unless)
