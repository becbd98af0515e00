-- What a chain over a keep makes: files of its stages, and over an honest keep what is made from scratch.
use Rattle.plan_num.proofs.Common.{arith, ◌≡◌, ℤ, cond, is_some, List, [], ◌∷◌, ◌++◌, None, Result}
use Rattle.plan_num.proofs.Common.{Ok, Err, refl, ap, ◌∙◌}
use Rattle.plan_files.proofs.Common.{Folder}
use Rattle.giv_files.specs.declared.made.Made.{Made}
use Rattle.giv_files.specs.declared.made.MadeFile.{MadeFile}
use Rattle.giv_files.specs.declared.stage.Stage.{Stage}
use Rattle.giv_files.proofs.Common.{MakesAs, ids_of, BundleParts, Fits, stage_inputs}
use Rattle.config_keys.proofs.Common.{AreSettings, effective_settings}
use Rattle.stage_keep.specs.Honest.{kept_for}
use Rattle.stage_keep.proofs.Honesty.{honest_is_made, kept_makes}
use Rattle.stage_chain.specs.declared.cause.Cause.{Cause}
use Rattle.stage_chain.specs.Built.{made}
use Rattle.stage_chain.specs.Built.{trace_of}
use Rattle.stage_chain.specs.Chain.{bundle_told, chain_from, go_on, texts_of}
use Rattle.stage_chain.specs.Chain.{tried, visit_of}
use Rattle.stage_chain.specs.Hand.{hand_of}
use Rattle.stage_chain.specs.Kept.{IsKeptHonest, KeepsNothing, kept_in, made_over}
use Rattle.stage_chain.specs.Kept.{solve_over, trace_over, work_over}
use Rattle.stage_chain.specs.Runs.{IsFromScratch, run_over}
use Rattle.stage_chain.proofs.MadeRight.{given_fits}
use Rattle.stage_chain.specs.StageParts.{StageParts}
use Rattle.stage_chain.specs.Laws.{AreStages}

module _ (S : StageParts) (laws : AreStages S) where
  -- what a stage gives over a keep are files that it may make
  pub solve_makes : (keep : Folder) (bundle : BundleParts) (made : Made)
      → solve_over S keep bundle ≡ Ok made → MakesAs bundle.stage (ids_of made.files)
  unfolding solve_over
  solve_makes keep bundle made = grind (arith, kept_makes)

  -- over an honest keep a stage gives what it makes
  honest_solve : (keep : Folder) → IsKeptHonest S keep → (bundle : BundleParts) → Fits bundle
      → solve_over S keep bundle ≡ S.run bundle
  unfolding solve_over
  honest_solve keep honest bundle fits = grind (arith, honest_is_made)

  module _ (keep : Folder) (honest : IsKeptHonest S keep) (hand : Folder) where
    module _ (values : List ℤ) (are : AreSettings values) where
      -- so the chain is that which makes each stage
      honest_visit : (before : List MadeFile) (stage : Stage)
          → visit_of (solve_over S keep) values hand before stage ≡ visit_of S.run values hand before stage
      unfolding visit_of
      honest_visit before stage = by (bundle_told values stage (texts_of values hand before (stage_inputs stage))) refl
        where
          by : (told : Result BundleParts Cause)
              → bundle_told values stage (texts_of values hand before (stage_inputs stage)) ≡ told
              → tried (solve_over S keep) values hand told ≡ tried S.run values hand told
          by (Err why) is = refl
          by (Ok bundle) is = grind (arith, honest_solve, given_fits)

      honest_chain : (before : List MadeFile) (stages : List Stage)
          → chain_from (solve_over S keep) values hand before stages ≡ chain_from S.run values hand before stages
      honest_chain before [] = refl
      honest_chain before (stage ∷ stages) =
          ap (λ visit. go_on visit
          (λ visit. chain_from (solve_over S keep) values hand (before ++ visit.made.files) stages))
          (honest_visit before stage)
          ∙ ap (go_on (visit_of S.run values hand before stage))
          (λ i visit. honest_chain (before ++ visit.made.files) stages i)

    -- The chain over an honest keep does what is done from scratch.
    pub honest_trace : trace_over S keep hand ≡ trace_of S hand
    unfolding trace_over trace_of
    honest_trace = grind (arith, honest_chain, effective_settings)

  -- a run over a folder whose keep is honest makes what is made from scratch
  pub from_scratch : (folder : Folder) → IsKeptHonest S folder
      → IsFromScratch S (run_over S folder) (hand_of folder)
  unfolding made made_over
  from_scratch folder honest = grind (arith, honest_trace)

  -- ---- where nothing is kept

  -- what keeps nothing is honest
  pub nothing_honest : (folder : Folder) → KeepsNothing folder → IsKeptHonest S folder
  nothing_honest folder none = grind arith

  module _ (folder : Folder) (none : KeepsNothing folder) where
    none_kept : (bundle : BundleParts) → kept_in folder bundle ≡ None
    none_kept bundle = ap (kept_for bundle) (none bundle.stage)

    all_work : (bundle : BundleParts) → work_over S folder bundle ≡ S.work bundle
    unfolding work_over
    all_work bundle = ap (λ kept. cond (is_some kept) 0 (S.work bundle)) (none_kept bundle)

    -- a run makes what is made from scratch, by the same work
    pub nothing_kept : run_over S folder ≡ made S (hand_of folder)
    unfolding made made_over
    nothing_kept = grind (arith, honest_trace, nothing_honest, all_work)
