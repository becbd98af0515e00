-- What the stages of the line concept owe to the chain, and what later stages take of the concept.
use Rattle.plan_num.proofs.Common.{arith, ◌≡◌, ℕ, ℤ, Bool, true, false, cond, inl, inr, List, []}
use Rattle.plan_num.proofs.Common.{Option, None, Some, refl, subst, sym, Contains}
use Rattle.tables.specs.declared.file_id.FileId.{FileId}
use Rattle.tables.specs.declared.file_id.FileId.TheVariants as file
use Rattle.giv_files.specs.declared.key.Key.TheVariants as key
use Rattle.giv_files.specs.declared.made.MadeFile.{MadeFile}
use Rattle.giv_files.specs.declared.stage.Stage.TheVariants as stage
use Rattle.giv_files.proofs.Common.{ids_of, BundleParts, input_text}
use Rattle.tables.proofs.Common.{input_names, names_only}
use Rattle.ptn_network.specs.Loads.{load_input}
use Rattle.ptn_network.specs.Networks.{network_in, network_of}
use Rattle.line_walks.specs.PoolCosts.{pool_cost_input}
use Rattle.line_walks.specs.Pools.{concept_faults}
use Rattle.line_search.specs.GivenProblems.{lines_in}
use Rattle.line_search.specs.ConceptStage.{mark_files}
use Rattle.line_search.specs.RightPinned.{ConceptIsRight}
use Rattle.line_search.proofs.ConceptMakes.{concept_stage_makes}
use Rattle.line_search.proofs.ConceptNames.{concept_stage_names}
use Rattle.line_search.proofs.ConceptReads.{concept_is_right}
use Rattle.line_search.proofs.PinnedLaws.{pinned_concept_makes, pinned_concept_names, pinned_concept_right}
use Rattle.line_search.proofs.PinnedOver.{found_right, right_over}
use Rattle.stage_chain.specs.Checks.{standing}
use Rattle.stage_chain.specs.Hand.{is_hand, is_hand_file}
use Rattle.stage_chain.specs.Laws.{IsRightOver, bundle_over, files_over}
use Rattle.planning_stages.specs.Places.{in_place, is_pinned}
use Rattle.planning_stages.specs.Planning.{planning, stage_model}
use Rattle.planning_stages.specs.Verdicts.{concept_verdict, first_text}
use Rattle.planning_stages.proofs.ContentFiles.{either_stand}
use Rattle.planning_stages.proofs.CostLaws.{costs_accepted}
use Rattle.planning_stages.proofs.LoadLaws.{loads_accepted}
use Rattle.planning_stages.proofs.OneLook.{first_own}
use Rattle.planning_stages.proofs.PinnedPlaces.{concept_lists}
use Rattle.planning_stages.proofs.StageLaws.{StageLaws, any, fine}

-- the first of a mark's files has its text
first_mark : (mark : Option (List ℕ)) → first_text (mark_files mark) ≡ mark
first_mark None = refl
first_mark (Some text) = refl

concept_none : (bundle : BundleParts) (there : List MadeFile) → ConceptIsRight bundle there
    → concept_verdict bundle there ≡ None
concept_none bundle there right = rw (right.each, right.inputs, first_mark right.tree, right.passes) refl

module _ (values : List ℤ) (look : FileId → List ℕ) where
  -- whoever gives the concept, it is right over what the plain stage is given
  pub concept_right_by : (pinned : Bool) (files : List MadeFile)
      → (stage_model (cond pinned stage.PinnedConcept stage.Concept)).IsRight
      (bundle_over values look (cond pinned stage.PinnedConcept stage.Concept)) files
      → ConceptIsRight (bundle_over values look stage.Concept) files
  unfolding stage_model
  concept_right_by true files right =
      right_over (bundle_over values look stage.PinnedConcept) (bundle_over values look stage.Concept)
      (record { stops = refl; edges = refl; pool = refl; loads = refl; costs = refl }) files right
  concept_right_by false files right = found_right (bundle_over values look stage.Concept) files right

  pub concept_right : (concept : IsRightOver planning values look (in_place values stage.Concept))
      → ConceptIsRight (bundle_over values look stage.Concept) (files_over look concept.ids)
  unfolding planning
  concept_right concept = concept_right_by (is_pinned values key.PinConcept) (files_over look concept.ids) concept.right

  pub concept_accepted : IsRightOver planning values look (in_place values stage.Concept)
      → concept_faults (network_of (look file.Stop) (look file.Edge)) (look file.Concept) ≡ []
  concept_accepted concept =
      let right = concept_right concept in grind (arith, first_own)

pub concept_laws : StageLaws stage.Concept
unfolding planning stage_model is_hand
concept_laws = record {
  makes = concept_stage_makes;
  right = concept_is_right;
  refuses =
      λ values look reason was is. concept_stage_names is_hand_file refl refl refl
      (bundle_over values look stage.Concept) (fine (loads_accepted values look (was stage.Load refl)))
      (fine (costs_accepted values look (was stage.Cost refl))) reason is;
  names = λ bundle reason is. inl tt;
  stand =
      λ values folder bundle lacks none. subst (λ lists. Contains lists (ids_of (standing folder stage.Concept)))
      (sym (concept_lists values)) (either_stand folder file.Concept file.Tree refl lacks);
  unbroken =
      λ values look made own. concept_none (bundle_over values look stage.Concept) made.files
      (concept_right_by values look (is_pinned values key.PinConcept) made.files own.1);
}

pub pinned_concept_laws : StageLaws stage.PinnedConcept
unfolding planning stage_model is_hand
pinned_concept_laws = record {
  makes = pinned_concept_makes;
  right = pinned_concept_right;
  refuses =
      λ values look reason was is. names_only is_hand_file reason
      (pinned_concept_names is_hand_file refl refl refl refl (bundle_over values look stage.PinnedConcept)
      (fine (loads_accepted values look (was stage.Load refl)))
      (fine (costs_accepted values look (was stage.Cost refl))) reason is);
  names =
      λ bundle reason is. inr
      (pinned_concept_names any refl refl refl refl bundle
      (input_names any (load_input file.Load (network_in bundle.inputs).edges) (input_text bundle 3) refl)
      (input_names any (pool_cost_input (lines_in bundle)) (input_text bundle 4) refl) reason is);
  stand = λ values folder bundle lacks none. either_stand folder file.Concept file.Tree refl lacks;
  unbroken = λ values look made own. refl;
}
