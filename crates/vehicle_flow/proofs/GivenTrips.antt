-- The trips of a bundle, from what its texts and settings are read as.
use Rattle.plan_num.proofs.Common.{◌≡◌, ℕ, pos, ◌≤◌, true, List, length, Result, refl, ap, arith}
use Rattle.plan_num.proofs.Common.{unsigned_abs, to_z, ints}
use Rattle.std.proofs.lemmas.Int.{to_z-of_z}
use mir.Syntax.{w64}
use Rattle.giv_files.specs.declared.key.Key.TheVariants as key
use Rattle.tables.specs.declared.refusal.StageFault.{StageFault}
use Rattle.tables.proofs.Common.{UnlessFault, UnlessFault-weaker}
use Rattle.giv_files.specs.declared.stage.Stage.{Stage}
use Rattle.giv_files.proofs.Common.{BundleParts, Fits, amount, has_key, input_text, stage_inputs}
use Rattle.giv_files.proofs.Common.{amount_within}
use Rattle.giv_files.specs.declared.stage.Stage.TheVariants as stage
use Rattle.vehicle_model.specs.Trips.{TripsParts, trips_faults, trips_of}
use Rattle.vehicle_flow.specs.VehicleStage.{takes_trips, trips_in, vehicles_faults}

-- a small number that is handed on with a sign
pub signed : (value : ℕ) → value ≤ 1000000000000 → unsigned_abs (to_z w64 value) ≡ value
signed value few = ap unsigned_abs (to_z-of_z w64 (pos value) (record { sfits = omega (arith, ints, few) }))

-- a stage that takes trips has their settings, and three texts at least
takes : (at : Stage) → takes_trips at ≡ true
    → (has_key at key.VsTurnOverTime ≡ true) × (has_key at key.VsVehicleCosts ≡ true)
    × (has_key at key.VsEmptyCosts ≡ true) × (3 ≤ length (stage_inputs at))
takes stage.Vehicles own = (refl, refl, refl, omega arith)
takes stage.PinnedVehicles own = (refl, refl, refl, omega arith)
takes _ own = absurd (cc)

-- the settings of the stage are small
module _ (bundle : BundleParts) (own : takes_trips bundle.stage ≡ true) (fits : Fits bundle) where
  pub turnover_few : amount bundle.settings key.VsTurnOverTime ≤ 10000
  turnover_few = (amount_within bundle.stage bundle.settings key.VsTurnOverTime _ _ fits.settings
      (takes bundle.stage own).0 refl refl).1

  pub vehicle_few : amount bundle.settings key.VsVehicleCosts ≤ 1000000000000
  vehicle_few = (amount_within bundle.stage bundle.settings key.VsVehicleCosts _ _ fits.settings
      (takes bundle.stage own).1 refl refl).1

  pub empty_few : amount bundle.settings key.VsEmptyCosts ≤ 1000000000000
  empty_few = (amount_within bundle.stage bundle.settings key.VsEmptyCosts _ _ fits.settings
      (takes bundle.stage own).2 refl refl).1

  pub trips_given : (stops edges trips : List ℕ) (turnover vehicle empty : ℕ)
      → stops ≡ input_text bundle 0 → edges ≡ input_text bundle 1 → trips ≡ input_text bundle 2
      → turnover ≡ amount bundle.settings key.VsTurnOverTime
      → vehicle ≡ amount bundle.settings key.VsVehicleCosts
      → empty ≡ amount bundle.settings key.VsEmptyCosts
      → (result : Result TripsParts StageFault)
      → UnlessFault (trips_faults stops edges trips)
      (λ made. made ≡ trips_of stops edges trips (unsigned_abs (to_z w64 turnover))
      (unsigned_abs (to_z w64 vehicle)) (unsigned_abs (to_z w64 empty))) result
      → UnlessFault (vehicles_faults bundle) (λ made. made ≡ trips_in bundle) result
  unfolding trips_in
  trips_given stops edges trips turnover vehicle empty a b c d e f result given =
      grind (arith, UnlessFault-weaker, signed, turnover_few, vehicle_few, empty_few)
