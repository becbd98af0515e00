-- What the stage of the statistic owes to the chain: all plans that earlier stages made have no fault
-- as it reads them.
use Rattle.plan_num.proofs.Common.{◌≡◌, ℕ, ℤ, inr, List, [], None, refl, subst, arith}
use Rattle.tables.specs.declared.file_id.FileId.{FileId}
use Rattle.tables.specs.declared.file_id.FileId.TheVariants as file
use Rattle.giv_files.specs.declared.key.Key.TheVariants as key
use Rattle.giv_files.specs.declared.stage.Stage.TheVariants as stage
use Rattle.tables.proofs.Common.{concept_columns, Input, input_faults, ReadsBack, AllName}
use Rattle.tables.proofs.Common.{input_names, names_both, names_only, back_none, front_none}
use Rattle.giv_files.specs.Keys.{stage_keys}
use Rattle.giv_files.proofs.Common.{BundleParts, amount, input_text}
use Rattle.config_keys.proofs.Common.{part_of}
use Rattle.walks.proofs.Common.{NetworkParts}
use Rattle.ptn_network.specs.Networks.{network_faults, network_of}
use Rattle.ptn_network.proofs.Sound.{network_sound}
use Rattle.line_walks.specs.GivenCosts.{costs_of as pool_costs}
use Rattle.line_walks.specs.Pools.{line_faults, pool_faults, pool_of}
use Rattle.line_pool.specs.RightCosts.{CostFilesAreRight}
use Rattle.line_walks.proofs.WholeLines.{whole_lines}
use Rattle.line_search.specs.ConceptTables.{concept_rows}
use Rattle.line_search.specs.GivenProblems.{problem_of}
use Rattle.line_search.specs.ConceptStage.{mark_files}
use Rattle.pesp_model.specs.PespTexts.{events_of as periodic_rows, problem_faults}
use Rattle.evaluators.specs.StatisticInputs.{concept_input, cost_input}
use Rattle.evaluators.specs.StatisticStage.{costs_of, day_part, line_part, periodic_part, statistic_faults}
use Rattle.evaluators.proofs.StatisticMakes.{statistic_stage_makes, statistic_stage_names}
use Rattle.evaluators.proofs.StatisticReads.{statistic_is_right}
use Rattle.stage_chain.specs.Hand.{is_hand, is_hand_file}
use Rattle.stage_chain.specs.Laws.{IsRightOver, bundle_over, files_over}
use Rattle.planning_stages.specs.Places.{in_place}
use Rattle.planning_stages.specs.Planning.{planning, stage_model}
use Rattle.planning_stages.proofs.ConceptLaws.{concept_accepted, concept_right}
use Rattle.planning_stages.proofs.ContentFiles.{content_none, content_stands}
use Rattle.planning_stages.proofs.CostLaws.{costs_accepted}
use Rattle.planning_stages.proofs.DispositionLaws.{disposition_accepted}
use Rattle.planning_stages.proofs.EanLaws.{network_accepted}
use Rattle.planning_stages.proofs.OneLook.{first_own}
use Rattle.planning_stages.proofs.RolloutLaws.{day_made}
use Rattle.planning_stages.proofs.StageLaws.{AreRightBefore, StageLaws, any, fine}
use Rattle.planning_stages.proofs.StatisticLines.{concept_read, costs_read}
use Rattle.planning_stages.proofs.TimetableLaws.{times_accepted}
use Rattle.planning_stages.proofs.VehicleLaws.{schedule_accepted}

-- ---- what it refuses is a row of an input

module _ (bundle : BundleParts) where
  of_input : {X : Type 0} (input : Input X) (place : ℕ) → AllName any (input_faults input (input_text bundle place))
  of_input input place = input_names any input (input_text bundle place) refl

  lines_named : AllName any (line_part bundle)
  lines_named = names_both any _ _ (of_input cost_input 0) (of_input (concept_input (costs_of (input_text bundle 0))) 1)

  periodic_named : AllName any (periodic_part bundle)
  periodic_named = grind (arith, names_both, any, of_input)

  day_named : AllName any (day_part bundle)
  day_named = grind (arith, names_both, any, of_input)

  statistic_named : AllName any (statistic_faults bundle)
  unfolding statistic_faults
  statistic_named = grind (arith, names_both, any, lines_named, periodic_named, of_input, day_named)

-- ---- what earlier stages made has no fault

module _ (values : List ℤ) (look : FileId → List ℕ) where
  abbrev network : NetworkParts
  network = network_of (look file.Stop) (look file.Edge)

  -- the costs and the line concept
  lines_accepted : IsRightOver planning values look stage.Cost
      → IsRightOver planning values look (in_place values stage.Concept)
      → line_part (bundle_over values look stage.Statistic) ≡ []
  unfolding problem_of line_faults planning stage_model
  lines_accepted costs concept =
      let right : CostFilesAreRight (bundle_over values look stage.Cost) (files_over look costs.ids) = costs.right in
      let found = concept_right values look concept in
      let networks = network_faults (look file.Stop) (look file.Edge) in
      let pool = pool_of network (look file.Pool) in
      let no_fault : networks ≡ [] = front_none networks (pool_faults network (look file.Pool)) right.inputs in
      let pools = back_none networks (pool_faults network (look file.Pool)) right.inputs in
      let lines =
      whole_lines _ network (look file.Pool) (network_sound (look file.Stop) (look file.Edge) no_fault) pools in
      let accepted = costs_accepted values look costs in
      let problem = problem_of (bundle_over values look stage.Concept) in
      let reads : ReadsBack concept_columns (concept_rows problem found.frequencies) (look file.Concept) =
      subst (ReadsBack concept_columns (concept_rows problem found.frequencies))
      (first_own look file.Concept concept.ids found.text (mark_files found.tree) found.each) found.reads in
      rw (
        costs_read pool (look file.PoolCost) accepted,
        concept_read pool (look file.PoolCost) accepted network.edges lines.few problem
            (pool_costs pool (look file.PoolCost)) found.frequencies (look file.Concept) refl reads
            (concept_accepted values look concept),
      ) refl

  -- the period is the same for each stage that has it
  same_period : amount (part_of values stage.Timetable) key.PeriodLength
      ≡ amount (part_of values stage.Statistic) key.PeriodLength
  unfolding stage_keys
  same_period = refl

  -- the periodic timetable
  periodic_read : IsRightOver planning values look stage.Ean
      → IsRightOver planning values look (in_place values stage.Timetable)
      → periodic_part (bundle_over values look stage.Statistic) ≡ []
  unfolding problem_faults periodic_rows
  periodic_read ean times =
      let made = network_accepted values look ean in
      rw (made.events_fine, made.activities_fine, times_accepted values look times _ same_period) refl

  -- the day
  day_read : IsRightOver planning values look stage.Rollout
      → IsRightOver planning values look (in_place values stage.Vehicles)
      → IsRightOver planning values look stage.Disposition → day_part (bundle_over values look stage.Statistic) ≡ []
  day_read day vehicles disposition =
      let made = day_made values look day in
      rw (
        made.events_fine,
        made.activities_fine,
        schedule_accepted values look day vehicles,
        disposition_accepted values look disposition,
      ) refl

  all_accepted : AreRightBefore values look stage.Statistic
      → statistic_faults (bundle_over values look stage.Statistic) ≡ []
  unfolding planning statistic_faults
  all_accepted was =
      rw (
        lines_accepted (was stage.Cost refl) (was stage.Concept refl),
        periodic_read (was stage.Ean refl) (was stage.Timetable refl),
        (day_made values look (was stage.Rollout refl)).trips_fine None tt,
        day_read (was stage.Rollout refl) (was stage.Vehicles refl) (was stage.Disposition refl),
      ) refl

pub statistic_laws : StageLaws stage.Statistic
unfolding planning stage_model is_hand
statistic_laws = record {
  makes = statistic_stage_makes;
  right = statistic_is_right;
  refuses =
      λ values look reason was is. names_only is_hand_file reason
      (statistic_stage_names is_hand_file (bundle_over values look stage.Statistic) reason
      (fine (all_accepted values look was)) is);
  names = λ bundle reason is. inr (statistic_stage_names any bundle reason (statistic_named bundle) is);
  stand = λ values folder bundle lacks none. content_stands stage.Statistic refl refl folder lacks;
  unbroken = λ values look made own. content_none stage.Statistic _ made own.0;
}
