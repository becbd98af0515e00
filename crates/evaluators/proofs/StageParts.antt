-- The parts of the stage: faults in their order, and what is made.
use Rattle.std.proofs.Common.{◌≡◌, ℕ, [], length, None, Ok, Err, arith}
use Rattle.giv_files.specs.declared.key.Key.TheVariants as key
use Rattle.giv_files.specs.declared.made.Made.{Made}
use Rattle.giv_files.proofs.Common.{BundleParts, amount, StageGives, input_text}
use Rattle.tables.specs.declared.refusal.StageFault.{StageFault}
use Rattle.tables.proofs.Common.{Refuses, records_of, refused_append}
use Rattle.giv_files.proofs.StageCalls as calls
use Rattle.event_tables.proofs.Common.{trip_input}
use Rattle.evaluators.specs.declared.day_values.DayValues.{DayValues}
use Rattle.evaluators.specs.declared.line_values.LineValues.{LineValues}
use Rattle.evaluators.specs.declared.periodic_values.PeriodicValues.{PeriodicValues}
use Rattle.evaluators.specs.declared.statistic.Statistic.{Statistic}
use Rattle.evaluators.specs.Statistic.{schedule_cost}
use Rattle.evaluators.specs.StatisticStage.{bundle_day, day_part, line_part, lines_in, period_in, periodic_in}
use Rattle.evaluators.specs.StatisticStage.{periodic_part, statistic_faults, statistic_in, statistic_made}
use Rattle.evaluators.specs.StatisticStage.{statistic_stage, trip_part}
use Rattle.evaluators.proofs.ValuesOfParts.{refused_next}

module _ (bundle : BundleParts) where
  pub lines_refuse : (fault : StageFault) → Refuses (line_part bundle) fault
      → Refuses (statistic_faults bundle) fault
  unfolding statistic_faults
  lines_refuse fault h = refused_append (line_part bundle) _ fault h

  module _ (lines : line_part bundle ≡ []) where
    pub periodic_refuses : (fault : StageFault) → Refuses (periodic_part bundle) fault
        → Refuses (statistic_faults bundle) fault
    unfolding statistic_faults
    periodic_refuses fault h = grind (arith, refused_next, refused_append)

    module _ (periodic : periodic_part bundle ≡ []) where
      pub trips_refuse : (fault : StageFault) → Refuses (trip_part bundle) fault
          → Refuses (statistic_faults bundle) fault
      unfolding statistic_faults
      trips_refuse fault h = grind (arith, refused_next, refused_append)

      module _ (trips : trip_part bundle ≡ []) where
        pub day_refuses : (fault : StageFault) → Refuses (day_part bundle) fault
            → Refuses (statistic_faults bundle) fault
        unfolding statistic_faults
        day_refuses fault h = grind arith

        pub all_none : day_part bundle ≡ [] → statistic_faults bundle ≡ []
        unfolding statistic_faults
        all_none day = grind arith

  pub statistic_is : (lines : LineValues) (periodic : PeriodicValues) (trips : ℕ) (day : DayValues)
      (by_vehicle by_minute cost : ℕ) → lines ≡ lines_in (input_text bundle 0) (input_text bundle 1)
      → periodic ≡ periodic_in (period_in bundle) (input_text bundle 2) (input_text bundle 3)
      (input_text bundle 4)
      → trips ≡ length (records_of (trip_input None) (input_text bundle 5))
      → day ≡ bundle_day bundle → by_vehicle ≡ amount bundle.settings key.VsVehicleCosts
      → by_minute ≡ amount bundle.settings key.VsEmptyCosts
      → cost ≡ schedule_cost by_vehicle by_minute day
      → record {
        lines = lines;
        periodic = periodic;
        trips = trips;
        day = day;
        schedule_cost =
            cost;
      }
      ≡ statistic_in bundle
  unfolding statistic_in
  statistic_is lines periodic trips day by_vehicle by_minute cost l p t d v m c = grind arith

  pub stage_refused : (fault : StageFault) → Refuses (statistic_faults bundle) fault
      → StageGives (statistic_stage bundle) (Err fault)
  unfolding statistic_stage
  stage_refused fault refused = grind arith

  pub stage_made : (all : Statistic) (made : Made) → statistic_faults bundle ≡ []
      → all ≡ statistic_in bundle → made ≡ statistic_made all
      → StageGives (statistic_stage bundle) (Ok made)
  unfolding statistic_stage
  stage_made all made none is m = grind arith
