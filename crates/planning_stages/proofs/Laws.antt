-- The planning stages owe to the chain what its laws say.
use Rattle.plan_num.proofs.Common.{arith, ◌≡◌, ℤ, List, [], ◌∷◌, Option, Some, None, IfOk, IfNone}
use Rattle.plan_num.proofs.Common.{Result, Ok, Err, refl, ap, subst, sym, ◌∙◌}
use Rattle.giv_files.specs.declared.made.MadeFile.{MadeFile}
use Rattle.giv_files.specs.declared.stage.Stage.{Stage}
use Rattle.giv_files.specs.declared.stage.Stage.TheVariants as stage
use Rattle.giv_files.proofs.Common.{MakesAs, ids_of, made_lists, BundleParts, Fits, stage_makes}
use Rattle.stage_chain.specs.declared.finding.Finding.{Finding}
use Rattle.stage_chain.specs.Hand.{is_hand}
use Rattle.stage_chain.specs.Laws.{AreStages}
use Rattle.stage_chain.specs.Right.{files_by, made_in}
use Rattle.stage_chain.specs.StageLists.{is_earlier, rising}
use Rattle.stage_chain.proofs.RightOver.{right_before}
use Rattle.planning_stages.specs.Planning.{planning, stage_model}
use Rattle.planning_stages.specs.Verdicts.{content_found}
use Rattle.planning_stages.proofs.ConceptLaws.{concept_laws, pinned_concept_laws}
use Rattle.planning_stages.proofs.ContentFiles.{all_there, content_right}
use Rattle.planning_stages.proofs.CostLaws.{cost_laws}
use Rattle.planning_stages.proofs.DispositionLaws.{disposition_laws}
use Rattle.planning_stages.proofs.EanLaws.{ean_laws}
use Rattle.planning_stages.proofs.LoadLaws.{load_laws}
use Rattle.planning_stages.proofs.PinnedPlaces.{can_run, lists_are}
use Rattle.planning_stages.proofs.RolloutLaws.{rollout_laws}
use Rattle.planning_stages.proofs.StageLaws.{StageLaws}
use Rattle.planning_stages.proofs.StatisticLaws.{statistic_laws}
use Rattle.planning_stages.proofs.TimetableLaws.{pinned_timetable_laws, timetable_laws}
use Rattle.planning_stages.proofs.VehicleLaws.{pinned_vehicles_laws, vehicles_laws}

-- the list of the stages
pub stage_laws : (at : Stage) → StageLaws at
stage_laws stage.Load = load_laws
stage_laws stage.Cost = cost_laws
stage_laws stage.Concept = concept_laws
stage_laws stage.Ean = ean_laws
stage_laws stage.Timetable = timetable_laws
stage_laws stage.Rollout = rollout_laws
stage_laws stage.Vehicles = vehicles_laws
stage_laws stage.Disposition = disposition_laws
stage_laws stage.Statistic = statistic_laws
stage_laws stage.PinnedConcept = pinned_concept_laws
stage_laws stage.PinnedTimetable = pinned_timetable_laws
stage_laws stage.PinnedVehicles = pinned_vehicles_laws

pub planning_laws : AreStages planning
unfolding planning rising is_earlier is_hand
planning_laws = record {
  list = record { rise = refl; given = refl; files_differ = refl; keeps_differ = refl; no_keep = refl; no_hand = refl };
  lists = lists_are;
  placed = can_run;
  makes = λ bundle made is. (stage_laws bundle.stage).makes bundle made is;
  right = λ bundle made fits is. (stage_laws bundle.stage).right bundle made refl fits is;
  refuses = λ values look at reason right is.
      (stage_laws at).refuses values look reason
      (right_before planning values look (λ place. (can_run values place).point) at right) is;
  stand = λ folder values bundle lacks none. (stage_laws bundle.stage).stand values folder bundle lacks none;
  pass = λ folder values look place made solved right found.
      let own = planning.placed values place in
      let makes : MakesAs own (ids_of (files_by (made_in folder) (stage_makes place))) =
      subst (λ files. MakesAs own (ids_of files)) (sym found) ((stage_laws own).makes _ made solved) in (
        all_there own folder (stage_makes place) (can_run values place).makes makes,
        ap (((stage_model place).judged values).verdict _) found
            ∙ (stage_laws place).unbroken values look made (solved, right),
      );
}

-- what is found of files that are judged by their contents: where nothing is, they are right
pub content_clause : {E : Type 0} (bundle : BundleParts) (others : List MadeFile) → Fits bundle
    → (result : Result (Option Finding) E)
    → IfOk result (λ found. found ≡ content_found bundle.stage (planning.run bundle) others)
    → made_lists bundle.stage ≡ stage_makes bundle.stage ∷ [] → MakesAs bundle.stage (ids_of others)
    → IfOk result (λ found. IfNone found (planning.IsRight bundle.stage bundle others))
content_clause bundle others fits (Err fault) found lists makes = tt
content_clause bundle others fits (Ok (Some finding)) found lists makes = tt
content_clause bundle others fits (Ok None) found lists makes =
    content_right bundle.stage lists (planning.IsRight bundle.stage bundle) others (planning.run bundle)
    (λ made is. (planning_laws.makes bundle made is, planning_laws.right bundle made fits is)) makes (sym found)

-- what a judge says of files that the stage of a place may make holds of those that the stage that runs
-- there may make, where these are the same
pub passes_at : {E : Type 0} (values : List ℤ) (bundle : BundleParts) (others : List MadeFile) (at : Stage)
    → at ≡ bundle.stage → (result : Result (Option Finding) E)
    → (MakesAs (planning.placed values at) (ids_of others) → MakesAs at (ids_of others))
    → (MakesAs at (ids_of others)
    → IfOk result (λ found. IfNone found (((stage_model at).judged values).Satisfies bundle others)))
    → MakesAs (planning.placed values bundle.stage) (ids_of others)
    → IfOk result (λ found. IfNone found (planning.Satisfies values bundle others))
unfolding planning
passes_at values bundle others at own result same passes = grind arith
