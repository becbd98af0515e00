-- What is found of a stage whose files stand in a folder.
use Rattle.plan_num.proofs.Common.{arith, ◌≡◌, ℕ, ℤ, Bool, true, false, cond, is_some, List, Option}
use Rattle.plan_num.proofs.Common.{Some, None, IfSome, IfOk, Result, Ok, Err, refl, ap, subst, sym}
use Rattle.plan_num.proofs.Common.{◌∙◌, ◌+◌, ◌<◌, length, get_or, drop, option_or, at_drop_more}
use Rattle.plan_files.proofs.Common.{Folder}
use Rattle.giv_files.specs.declared.made.MadeFile.{MadeFile}
use Rattle.giv_files.specs.declared.stage.Stage.{Stage}
use Rattle.giv_files.proofs.Common.{BundleParts}
use Rattle.config_keys.specs.declared.config_end.ConfigEnd.{ConfigEnd}
use Rattle.config_keys.specs.declared.config_fault.ConfigFault.{ConfigFault}
use Rattle.config_keys.proofs.Common.{ConfigGives, look_in, effective}
use Rattle.config_keys.specs.declared.config_end.ConfigEnd.TheVariants as config
use Rattle.config_keys.specs.Ends.{is_broken as config_broken}
use Rattle.stage_chain.specs.declared.cause.Cause.TheVariants as cause
use Rattle.stage_chain.specs.declared.chain_end.ChainEnd.{ChainEnd}
use Rattle.stage_chain.specs.declared.chain_end.ChainEnd.TheVariants as end
use Rattle.stage_chain.specs.declared.finding.Finding.{Finding}
use Rattle.stage_chain.specs.declared.finding.Finding.TheVariants.{BadInput, Broken}
use Rattle.stage_chain.specs.declared.outcome.ChainFault.{ChainFault}
use Rattle.stage_chain.specs.declared.rule.Rule.TheVariants as rule
use Rattle.stage_chain.specs.Chain.{bundle_by}
use Rattle.stage_chain.specs.Checks.{EndedAs, UnsettledAs, check_of, first_found, found_at}
use Rattle.stage_chain.specs.Checks.{found_over, found_under, judge, lacks_file, standing}
use Rattle.stage_chain.specs.Ends.{Gives, has_failed, is_broken}
use Rattle.stage_chain.specs.Right.{text_in}
use Rattle.stage_chain.specs.StageParts.{StageParts}
use Rattle.stage_chain.specs.Laws.{AreStages}

module _ (S : StageParts) (laws : AreStages S) where
  module _ (values : List ℤ) (stage : Stage) where
    abbrev FoundIn : Result (Option Finding) ChainFault → Folder → Type 0
    FoundIn result folder = IfOk result (λ found. found ≡ judge S folder values stage)

    -- it was given its inputs
    pub judged_given : (contents now : Option Folder) (bundle : BundleParts)
        (result : Result (Option Finding) ChainFault) → now ≡ contents
        → IfSome contents (λ folder. Gives {T = BundleParts} (bundle_by (text_in folder) values stage) (Ok bundle))
        → IfSome now (λ folder. IfOk result (λ found. found ≡ found_over S folder values stage (Ok bundle)))
        → IfSome contents (FoundIn result)
    unfolding judge
    judged_given None now bundle result same given found = tt
    judged_given (Some folder) now bundle (Err fault) same given found = tt
    judged_given (Some folder) now bundle (Ok some) same given found = grind arith

    -- it was not
    ended_in : (folder : Folder) (ended : ChainEnd) (result : Result (Option Finding) ChainFault)
        → Gives {T = BundleParts} (bundle_by (text_in folder) values stage) (Err ended)
        → EndedAs stage ended result → FoundIn result folder
    unfolding judge
    ended_in folder (end.Stopped why) result given is =
        subst (λ result. IfOk result
        (λ found. found ≡ found_over S folder values stage (bundle_by (text_in folder) values stage))) (sym is)
        (ap (found_over S folder values stage) (sym given))
    ended_in folder end.FileFault result given is = rw is tt
    ended_in folder end.NoMemory result given is = rw is tt

    pub judged_ended : (contents : Option Folder) (ended : ChainEnd)
        (result : Result (Option Finding) ChainFault)
        → IfSome contents (λ folder. Gives {T = BundleParts} (bundle_by (text_in folder) values stage) (Err ended))
        → EndedAs stage ended result → IfSome contents (FoundIn result)
    judged_ended None ended result given is = tt
    judged_ended (Some folder) ended result given is = ended_in folder ended result given is

pub ended_failed : (stage : Stage) (ended : ChainEnd) (result : Result (Option Finding) ChainFault)
    → EndedAs stage ended result → is_broken {T = BundleParts} (Err ended) ≡ has_failed result
ended_failed stage (end.Stopped why) result is = rw is refl
ended_failed stage end.FileFault result is = rw is refl
ended_failed stage end.NoMemory result is = rw is refl

module _ (S : StageParts) (laws : AreStages S) where
  module _ (values : List ℤ) (stage : Stage) (bundle : BundleParts) where
    -- by the files that stand there
    there : (lacks : Bool) (some all : List MadeFile) → Some some ≡ cond lacks None (Some all)
        → S.verdict values bundle some
        ≡ cond lacks (Some (Broken stage rule.Missing)) (S.verdict values bundle all)
    there true some all e = absurd (cc)
    there false some all e = let same : some ≡ all = cc in ap (S.verdict values bundle) same

    pub judged_there : (contents : Option Folder) (told : Option (List MadeFile)) (some : List MadeFile)
        (found : Option Finding) (result : Result (Option Finding) ChainFault) → told ≡ Some some
        → IfSome contents (λ folder. told ≡ cond (lacks_file folder stage) None (Some (standing folder stage)))
        → found ≡ S.verdict values bundle some → result ≡ Ok found
        → IfSome contents (λ folder. IfOk result (λ found. found ≡ found_over S folder values stage (Ok bundle)))
    judged_there None told some found result same h is e = tt
    judged_there (Some folder) told some found result same h is e =
        subst (λ result. IfOk result (λ found. found ≡ found_over S folder values stage (Ok bundle))) (sym e)
        (is ∙ there (lacks_file folder stage) some (standing folder stage) (sym same ∙ h))

  -- ---- stages one after the other

  module _ (values : List ℤ) where
    -- nothing is found of the stages before the rest
    abbrev pub FirstLeft : List Stage → List Stage → Folder → Type 0
    FirstLeft stages rest folder = first_found S folder values rest ≡ first_found S folder values stages

    -- something is found of the next one
    pub told_some : (contents now : Option Folder) (stages all : List Stage) (i : ℕ) (d : Stage)
        (found : Option Finding) → i < length stages → now ≡ contents → stages ≡ all
        → IfSome now (λ folder. found ≡ found_at S folder values (get_or stages i d)) → is_some found ≡ true
        → IfSome contents (FirstLeft stages (drop i stages))
        → IfSome contents (λ folder. found ≡ first_found S folder values all)
    told_some contents now stages all i d None inside same own is there so_far = absurd (cc)
    told_some None now stages all i d (Some some) inside same own is there so_far = tt
    told_some (Some folder) now stages all i d (Some some) inside same own is there so_far =
        let here =
        subst (λ now. IfSome now (λ folder. Some some ≡ found_at S folder values (get_or stages i d))) same is in
        sym (at_drop_more (first_found S folder values) stages i d inside
        ∙ ap (λ found. option_or found (first_found S folder values (drop (i + 1) stages))) (sym here))
        ∙ so_far ∙ ap (first_found S folder values) own

    -- nothing is
    pub told_none : (contents now : Option Folder) (stages : List Stage) (i : ℕ) (d : Stage)
        (found : Option Finding) → i < length stages → now ≡ contents
        → IfSome now (λ folder. found ≡ found_at S folder values (get_or stages i d)) → is_some found ≡ false
        → IfSome contents (FirstLeft stages (drop i stages))
        → IfSome contents (FirstLeft stages (drop (i + 1) stages))
    told_none contents now stages i d (Some some) inside same is none so_far = absurd (cc)
    told_none None now stages i d None inside same is none so_far = tt
    told_none (Some folder) now stages i d None inside same is none so_far =
        let here = subst (λ now. IfSome now (λ folder. None ≡ found_at S folder values (get_or stages i d))) same is in
        sym (at_drop_more (first_found S folder values) stages i d inside
        ∙ ap (λ found. option_or found (first_found S folder values (drop (i + 1) stages))) (sym here))
        ∙ so_far

  -- ---- the settings

  found_is : (folder : Folder) (settings : Result (List ℤ) ConfigFault) (found : Option Finding)
      → effective (look_in folder) ≡ settings → found ≡ found_under S settings folder
      → found ≡ check_of S folder
  unfolding check_of
  found_is folder settings found is h = h ∙ ap (λ settings. found_under S settings folder) (sym is)

  pub told_settled : (contents now : Option Folder) (values : List ℤ)
      (result : Result (Option Finding) ChainFault) → now ≡ contents
      → IfSome contents (λ folder. ConfigGives (effective (look_in folder)) (Ok values))
      → IfSome now (λ folder. IfOk result (λ found. found ≡ first_found S folder values S.places))
      → IfSome contents (λ folder. IfOk result (λ found. found ≡ check_of S folder))
  told_settled None now values result same told h = tt
  told_settled (Some folder) now values (Err fault) same told h = tt
  told_settled (Some folder) now values (Ok found) same told h =
      found_is folder (Ok values) found told
      (subst (λ now. IfSome now (λ folder. found ≡ first_found S folder values S.places)) same h)

  unsettled_in : (folder : Folder) (end : ConfigEnd) (result : Result (Option Finding) ChainFault)
      → ConfigGives (effective (look_in folder)) (Err end) → UnsettledAs end result
      → IfOk result (λ found. found ≡ check_of S folder)
  unsettled_in folder (config.Refused reason) result told is =
      subst (λ result. IfOk result (λ found. found ≡ check_of S folder)) (sym is)
      (found_is folder (Err reason) (Some (BadInput (cause.BadConfig reason))) told refl)
  unsettled_in folder config.FileFault result told is = rw is tt
  unsettled_in folder config.NoMemory result told is = rw is tt

  pub told_unsettled : (contents : Option Folder) (end : ConfigEnd)
      (result : Result (Option Finding) ChainFault)
      → IfSome contents (λ folder. ConfigGives (effective (look_in folder)) (Err end))
      → UnsettledAs end result
      → IfSome contents (λ folder. IfOk result (λ found. found ≡ check_of S folder))
  told_unsettled None end result told is = tt
  told_unsettled (Some folder) end result told is = unsettled_in folder end result told is

pub unsettled_failed : (end : ConfigEnd) (result : Result (Option Finding) ChainFault)
    → UnsettledAs end result → config_broken {T = List ℤ} (Err end) ≡ has_failed result
unsettled_failed (config.Refused reason) result is = rw is refl
unsettled_failed config.FileFault result is = rw is refl
unsettled_failed config.NoMemory result is = rw is refl
