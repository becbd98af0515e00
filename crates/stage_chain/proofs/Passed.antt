-- Files of which a check finds nothing satisfy the models of their stages.
use Rattle.plan_num.proofs.Common.{arith, ◌≡◌, ℕ, ℤ, false, cond, is_some, ◌+◌, ◌<◌, ◌≤◌, List}
use Rattle.plan_num.proofs.Common.{length, get_or, drop, Option, Some, None, IfSome, IfOk, IfNone}
use Rattle.plan_num.proofs.Common.{Result, Ok, Err, subst, sym, at_drop_more, at_drop_all}
use Rattle.plan_files.proofs.Common.{Folder}
use Rattle.giv_files.specs.declared.made.MadeFile.{MadeFile}
use Rattle.giv_files.specs.declared.stage.Stage.{Stage}
use Rattle.giv_files.proofs.Common.{MakesAs, ids_of, BundleParts}
use Rattle.config_keys.specs.declared.config_end.ConfigEnd.{ConfigEnd}
use Rattle.config_keys.proofs.Common.{ConfigGives, look_in, effective}
use Rattle.config_keys.specs.declared.config_end.ConfigEnd.TheVariants as config
use Rattle.stage_chain.specs.declared.chain_end.ChainEnd.{ChainEnd}
use Rattle.stage_chain.specs.declared.chain_end.ChainEnd.TheVariants as end
use Rattle.stage_chain.specs.declared.checked.CheckEnd.{CheckEnd}
use Rattle.stage_chain.specs.declared.checked.CheckEnd.TheVariants as checks
use Rattle.stage_chain.specs.declared.finding.Finding.{Finding}
use Rattle.stage_chain.specs.declared.finding.Finding.TheVariants.{BadInput, Broken}
use Rattle.stage_chain.specs.declared.outcome.ChainFault.{ChainFault}
use Rattle.stage_chain.specs.Chain.{bundle_by}
use Rattle.stage_chain.specs.Checks.{EndedAs, UnsettledAs, check_end}
use Rattle.stage_chain.specs.Checks.{lacks_file}
use Rattle.stage_chain.specs.Checks.{standing}
use Rattle.stage_chain.specs.Passing.{AllStand, PassesIn, RunsStand, StageStands}
use Rattle.stage_chain.specs.Right.{text_in}
use Rattle.stage_chain.specs.StageParts.{StageParts}
use Rattle.stage_chain.specs.Laws.{AreStages}

module _ (S : StageParts) (laws : AreStages S) where
  -- what a place is given, and the stage of it
  module _ (values : List ℤ) (bundle : BundleParts) (stage : Stage) (own : bundle.stage ≡ stage) where
    abbrev Makes : List MadeFile → Type 0
    Makes files = MakesAs (S.placed values bundle.stage) (ids_of files)

    -- the files that were found satisfy the model where nothing is found of them
    pub told_there : (contents : Option Folder) (told : Option (List MadeFile)) (some : List MadeFile)
        (found : Option Finding) (result : Result (Option Finding) ChainFault) → told ≡ Some some
        → IfSome contents (λ folder. told ≡ cond (lacks_file folder stage) None (Some (standing folder stage)))
        → found ≡ S.verdict values bundle some
        → (Makes some → IfNone found (S.Satisfies values bundle some)) → result ≡ Ok found
        → IfSome contents
        (λ folder. IfOk result (λ found. IfNone found (S.Satisfies values bundle (standing folder stage))))
    told_there None told some found result same h is right e = tt
    told_there (Some folder) told some found result same h is right e = grind arith

  -- and so the stage stands
  pub told_stands : (contents now : Option Folder) (values : List ℤ) (stage : Stage)
      (bundle : BundleParts) (result : Result (Option Finding) ChainFault) → now ≡ contents
      → IfSome contents (λ folder. bundle_by (text_in folder) values stage ≡ Ok bundle)
      → IfSome now (λ folder. IfOk result (λ found. IfNone found (S.Satisfies values bundle (standing folder stage))))
      → IfSome contents (λ folder. IfOk result (λ found. IfNone found (StageStands S folder values stage)))
  told_stands None now values stage bundle result same given right = tt
  told_stands (Some folder) now values stage bundle (Err fault) same given right = tt
  told_stands (Some folder) now values stage bundle (Ok (Some found)) same given right = tt
  told_stands (Some folder) now values stage bundle (Ok None) same given right = grind arith

  module _ (values : List ℤ) where
    -- where the rest of some stages stand, all of them do
    abbrev pub RestStands : List Stage → List Stage → Folder → Type 0
    RestStands stages rest folder = AllStand S folder values rest → AllStand S folder values stages

    pub rest_next : (contents now : Option Folder) (stages : List Stage) (i : ℕ) (d : Stage)
        (found : Option Finding) → i < length stages → now ≡ contents
        → IfSome now (λ folder. IfNone found (RunsStand S folder values (get_or stages i d)))
        → is_some found ≡ false → IfSome contents (RestStands stages (drop i stages))
        → IfSome contents (RestStands stages (drop (i + 1) stages))
    rest_next contents now stages i d (Some found) inside same stands none rest = absurd (cc)
    rest_next None now stages i d None inside same stands none rest = tt
    rest_next (Some folder) now stages i d None inside same stands none rest =
        let here : RunsStand S folder values (get_or stages i d) = grind (arith, get_or) in
        λ more. rest
        (subst (AllStand S folder values) (sym (at_drop_more (λ rest. rest) stages i d inside)) (here, more))

    pub rest_end : (contents : Option Folder) (stages all : List Stage) (i : ℕ) → length stages ≤ i
        → stages ≡ all → IfSome contents (RestStands stages (drop i stages))
        → IfSome contents (λ folder. AllStand S folder values all)
    rest_end None stages all i past own rest = tt
    rest_end (Some folder) stages all i past own rest =
        subst (AllStand S folder values) own
        (rest (subst (AllStand S folder values) (sym (at_drop_all (λ rest. rest) stages i past)) tt))

  pub told_passes : (contents now : Option Folder) (values : List ℤ)
      (result : Result (Option Finding) ChainFault) → now ≡ contents
      → IfSome contents (λ folder. ConfigGives (effective (look_in folder)) (Ok values))
      → IfSome now (λ folder. IfOk result (λ found. IfNone found (AllStand S folder values S.places)))
      → IfSome contents (λ folder. IfOk result (λ found. IfNone found (PassesIn S folder)))
  told_passes None now values result same told h = tt
  told_passes (Some folder) now values (Err fault) same told h = tt
  told_passes (Some folder) now values (Ok (Some found)) same told h = tt
  told_passes (Some folder) now values (Ok None) same told h = grind arith

  pub unsettled_passes : (contents : Option Folder) (end : ConfigEnd)
      (result : Result (Option Finding) ChainFault) → UnsettledAs end result
      → IfSome contents (λ folder. IfOk result (λ found. IfNone found (PassesIn S folder)))
  unsettled_passes None end result is = tt
  unsettled_passes (Some folder) (config.Refused reason) result is = rw is tt
  unsettled_passes (Some folder) config.FileFault result is = rw is tt
  unsettled_passes (Some folder) config.NoMemory result is = rw is tt

  pub ended_stands : (contents : Option Folder) (values : List ℤ) (stage : Stage) (ended : ChainEnd)
      (result : Result (Option Finding) ChainFault) → EndedAs stage ended result
      → IfSome contents (λ folder. IfOk result (λ found. IfNone found (StageStands S folder values stage)))
  ended_stands None values stage ended result is = tt
  ended_stands (Some folder) values stage (end.Stopped why) result is = rw is tt
  ended_stands (Some folder) values stage end.FileFault result is = rw is tt
  ended_stands (Some folder) values stage end.NoMemory result is = rw is tt

  -- a check that ends as passed found nothing
  pub passed_none : (contents : Option Folder) (found : Option Finding) (end : CheckEnd)
      → end ≡ check_end found → IfSome contents (λ folder. IfNone found (PassesIn S folder))
      → IfSome contents (λ folder. end ≡ checks.Passed → PassesIn S folder)
  passed_none None found end is passes = tt
  passed_none (Some folder) None end is passes = λ passed. passes
  passed_none (Some folder) (Some (BadInput why)) end is passes = λ passed. absurd (cc)
  passed_none (Some folder) (Some (Broken stage rule)) end is passes = λ passed. absurd (cc)
