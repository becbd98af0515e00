-- What is right about a planner's schedule over the bundle of its stage is right over that of the plain stage in its
-- place; and so is what the plain stage makes.
use Rattle.plan_num.proofs.Common.{◌≡◌, List, Some, ap, subst, arith}
use Rattle.giv_files.specs.declared.key.Key.TheVariants as key
use Rattle.giv_files.specs.declared.made.MadeFile.{MadeFile}
use Rattle.giv_files.proofs.Common.{BundleParts, amount, input_text}
use Rattle.vehicle_model.specs.Trips.{TripsParts, trips_of, trips_faults}
use Rattle.vehicle_flow.specs.AcceptedSchedules.{IsAccepted}
use Rattle.vehicle_flow.specs.RightSchedules.{passed_over, PinnedScheduleIsRight, ScheduleIsRight}
use Rattle.vehicle_flow.specs.RightVehicles.{VehicleFilesAreRight, VehiclesAreRight}
use Rattle.vehicle_flow.specs.VehicleStage.{trips_in, vehicles_faults}

-- two bundles have the same trips: their first three texts are the same, and so are the settings of trips
pub record HaveSameTrips (bundle other : BundleParts) : Type 0 where
  pub stops : input_text bundle 0 ≡ input_text other 0
  pub edges : input_text bundle 1 ≡ input_text other 1
  pub rows : input_text bundle 2 ≡ input_text other 2
  pub turnover : amount bundle.settings key.VsTurnOverTime ≡ amount other.settings key.VsTurnOverTime
  pub vehicle : amount bundle.settings key.VsVehicleCosts ≡ amount other.settings key.VsVehicleCosts
  pub empty : amount bundle.settings key.VsEmptyCosts ≡ amount other.settings key.VsEmptyCosts

module _ (bundle other : BundleParts) (same : HaveSameTrips bundle other) where
  pub same_trips : trips_in bundle ≡ trips_in other
  unfolding trips_in
  same_trips = λ i. trips_of (same.stops i) (same.edges i) (same.rows i) (same.turnover i) (same.vehicle i)
      (same.empty i)

  pub same_faults : vehicles_faults bundle ≡ vehicles_faults other
  same_faults = λ i. trips_faults (same.stops i) (same.edges i) (same.rows i)

  -- so what is right over the one is right over the other
  pub right_over : (files : List MadeFile) → ScheduleIsRight bundle files → ScheduleIsRight other files
  right_over files right = grind (arith, same_faults, same_trips)

  pub pinned_over : (files : List MadeFile) → PinnedScheduleIsRight bundle files → PinnedScheduleIsRight other files
  unfolding right_over
  pinned_over files pinned = record {
    right = right_over files pinned.right;
    passes = grind (arith, same_trips);
    accepted = subst (λ (trips : TripsParts). IsAccepted trips.trips pinned.right.schedule) same_trips pinned.accepted;
  }

-- what passes with its potentials is right as a schedule
pub plain_schedule : (bundle : BundleParts) (files : List MadeFile) → VehiclesAreRight bundle files
    → ScheduleIsRight bundle files
plain_schedule bundle files right = record {
  inputs = right.inputs;
  schedule = right.schedule;
  potentials = Some right.potentials;
  each = right.both;
  reads = right.passes.reads;
  possible = right.passes.possible;
  marked = right.passes.marked;
}

-- what the plain stage makes is right as a planner's schedule is
pub plain_pinned : (bundle : BundleParts) (files : List MadeFile) → VehicleFilesAreRight bundle files
    → PinnedScheduleIsRight bundle files
unfolding plain_schedule
plain_pinned bundle files made = record {
  right = plain_schedule bundle files made.right;
  passes = ap passed_over made.passes;
  accepted = made.accepted;
}
