-- The folder that a finished run leaves passes a check.
use Rattle.config_keys.specs.declared.config_fault.ConfigFault.{ConfigFault}
use Rattle.config_keys.proofs.Common.{last_stage_of, look_in, effective}
use Rattle.plan_num.proofs.Common.{map, nat_le, ◌≡◌, ℤ, suc, Bool, true, false, cond, List, [], ◌∷◌}
use Rattle.plan_num.proofs.Common.{◌++◌, length, Option, Some, None, IfSome, Result, Ok, Err, refl}
use Rattle.plan_num.proofs.Common.{ap, subst, sym, ◌∙◌, arith, option_or}
use Rattle.plan_files.proofs.Common.{Folder}
use Rattle.giv_files.specs.declared.made.Made.{Made}
use Rattle.giv_files.specs.declared.made.MadeFile.{MadeFile}
use Rattle.giv_files.specs.declared.stage.Stage.{Stage}
use Rattle.giv_files.proofs.Common.{BundleParts, stage_makes}
use Rattle.tables.specs.declared.refusal.Refusal.{Refusal}
use Rattle.stage_chain.specs.declared.finding.Finding.{Finding}
use Rattle.command_line.specs.declared.ends.RunEnd.TheVariants as end
use Rattle.stage_chain.specs.Built.{cause_of, files_of, made, trace_of, trace_under}
use Rattle.stage_chain.specs.Chain.{Halt, Trace, Visit, bundle_by, chain_from, go_on, is_to_run}
use Rattle.stage_chain.specs.Chain.{stage_place, to_run, visit_of}
use Rattle.stage_chain.specs.Checks.{check_of, first_found, found_under, judge, lacks_file, standing}
use Rattle.stage_chain.specs.Hand.{hand_of}
use Rattle.stage_chain.specs.Passing.{RunsPass}
use Rattle.stage_chain.specs.Reports.{end_of}
use Rattle.stage_chain.specs.Right.{AllStandRight, files_by, text_in}
use Rattle.stage_chain.specs.Kept.{IsKeptHonest}
use Rattle.stage_chain.specs.Runs.{Trusts, after, run_over, started}
use Rattle.command_line.specs.declared.mode.Mode.{Mode}
use Rattle.stage_chain.proofs.BothModes.{honest_start}
use Rattle.stage_chain.proofs.Keeping.{from_scratch}
use Rattle.stage_chain.proofs.FilesLeftAreRight.{left_by, run_files, settings_after}
use Rattle.stage_chain.proofs.FoundAmongAllMade.{ArePlaced}
use Rattle.stage_chain.proofs.Traces.{are_placed, chain, stages_run, traced}
use Rattle.stage_chain.specs.StageParts.{StageParts}
use Rattle.stage_chain.specs.Laws.{AreStages, bundle_over}
use Rattle.stage_chain.proofs.Looked.{bundle_looked, front_given, looked}
use Rattle.stage_chain.proofs.FilesLeftAreRight.{looks_there}

-- ---- a chain that does not end early makes all its stages

module _ (solve : BundleParts → Result Made Refusal) (values : List ℤ) (hand : Folder) where
  all_visited : (made : List MadeFile) (stages : List Stage)
      → (chain_from solve values hand made stages).halt ≡ None
      → length (chain_from solve values hand made stages).visits ≡ length stages
  all_visited made [] none = refl
  all_visited made (stage ∷ stages) none =
      by (visit_of solve values hand made stage) (λ visit. all_visited (made ++ visit.made.files) stages) none
    where
      by : (told : Result Visit Halt)
          → ((visit : Visit) → (chain_from solve values hand (made ++ visit.made.files) stages).halt ≡ None
          → length (chain_from solve values hand (made ++ visit.made.files) stages).visits ≡ length stages)
          → (go_on told (λ visit. chain_from solve values hand (made ++ visit.made.files) stages)).halt ≡ None
          → length (go_on told (λ visit. chain_from solve values hand (made ++ visit.made.files) stages)).visits
          ≡ suc (length stages)
      by (Err halt) rest none = absurd (cc)
      by (Ok visit) rest none = ap suc (rest visit none)

module _ (S : StageParts) (laws : AreStages S) where
  module _ (folder : Folder) (values : List ℤ) where
    -- nothing is found of a stage over what it is given, where its files stand there
    abbrev NoneFound : Stage → Type 0
    NoneFound at = judge S folder values at ≡ None

    none_by : (at : Stage) (bundle : BundleParts)
        → bundle_by (text_in folder) values at ≡ Ok bundle → lacks_file folder at ≡ false
        → S.verdict values bundle (standing folder at) ≡ None → NoneFound at
    unfolding judge
    none_by at bundle given lacks none = rw (given, lacks) none

    one_passes : (place : Stage) (visit : Visit) → visit.bundle.stage ≡ S.placed values place
        → bundle_by (text_in folder) values (S.placed values place) ≡ Ok visit.bundle
        → files_by (text_in folder) (stage_makes visit.bundle.stage) ≡ visit.made.files
        → S.IsRight visit.bundle.stage visit.bundle visit.made.files
        → S.run visit.bundle ≡ Ok visit.made → NoneFound place
    one_passes place visit own given found right solved =
        let at = S.placed values place in
        let look = text_in folder in
        let can = laws.placed values place in
        let same = bundle_looked look values at visit.bundle given in
        let there =
        sym (looks_there folder place) ∙ ap (files_by look) (sym can.makes ∙ ap stage_makes (sym own)) ∙ found in
        let here : S.IsRight at visit.bundle visit.made.files =
        subst (λ own. S.IsRight own visit.bundle visit.made.files) own right in
        let passes = laws.pass folder values (looked look) place visit.made (ap S.run same ∙ solved)
        (subst (λ bundle. S.IsRight at bundle visit.made.files) (sym same) here) there in
        none_by place (bundle_over values (looked look) place)
        (front_given look values at place can.more visit.bundle can.inputs given) passes.0 passes.1

    -- the first that is found of stages, all of which are to run
    abbrev first_judged : List Stage → Option Finding
    first_judged [] = None
    first_judged (at ∷ stages) = option_or (judge S folder values at) (first_judged stages)

    by_run : (stages : List Stage)
        → first_found S folder values stages ≡ first_judged (to_run values stages)
    by_run [] = refl
    by_run (at ∷ stages) = by (is_to_run values at) (by_run stages)
      where
        by : (runs : Bool) → first_found S folder values stages ≡ first_judged (to_run values stages)
            → option_or (cond runs (judge S folder values at) None) (first_found S folder values stages)
            ≡ first_judged (cond runs (at ∷ to_run values stages) (to_run values stages))
        by true rest = ap (option_or (judge S folder values at)) rest
        by false rest = rest

    -- the stages that run in those of some places that are to run
    run_placed : (places : List Stage)
        → to_run values (map (S.placed values) places) ≡ map (S.placed values) (to_run values places)
    run_placed [] = refl
    run_placed (place ∷ places) =
        by (is_to_run values (S.placed values place)) (is_to_run values place)
        (ap (λ point. nat_le point (stage_place (last_stage_of values))) (laws.placed values place).point)
        (run_placed places)
      where
        by : (b c : Bool) → b ≡ c
            → to_run values (map (S.placed values) places) ≡ map (S.placed values) (to_run values places)
            → cond b (S.placed values place ∷ to_run values (map (S.placed values) places))
            (to_run values (map (S.placed values) places))
            ≡ map (S.placed values) (cond c (place ∷ to_run values places) (to_run values places))
        by true true e rest = ap (λ more. S.placed values place ∷ more) rest
        by false false e rest = rest
        by true false e rest = absurd (cc)
        by false true e rest = absurd (cc)

    all_pass : (hand : Folder) (all : List MadeFile) (places : List Stage) (visits : List Visit)
        → length visits ≡ length (map (S.placed values) places)
        → ArePlaced S.run laws.makes values hand all (map (S.placed values) places) visits
        → AllStandRight S (text_in folder) values visits → first_judged places ≡ None
    all_pass hand all [] visits full placed right = refl
    all_pass hand all (place ∷ places) [] full placed right = absurd (omega (arith, full))
    all_pass hand all (place ∷ places) (visit ∷ visits) full placed right =
        grind (
          arith,
          one_passes,
          all_pass hand all places visits (omega (arith, full)) placed.1 right.1,
        )

-- ---- the folder that a run leaves

no_cause : (halt : Option Halt) → end_of (cause_of halt) ≡ end.Done → halt ≡ None
no_cause None done = refl
no_cause (Some halt) done = grind arith

module _ (S : StageParts) (laws : AreStages S) where
  module _ (folder : Folder) (values : List ℤ) where
    abbrev hand : Folder
    hand = hand_of folder

    passes_under : effective (look_in hand) ≡ Ok values
        → (run_over S folder).files ≡ files_of (chain S laws values hand).visits
        → (chain S laws values hand).halt ≡ None → check_of S (after S folder) ≡ None
    unfolding check_of
    passes_under is same none =
        let run = run_placed S laws (after S folder) values S.places in
        let visits = (chain S laws values hand).visits in
        let placed = subst (λ all. ArePlaced S.run laws.makes values hand all (stages_run S laws values) visits)
        (sym same) (are_placed S laws values hand) in
        ap (λ settings. found_under S settings (after S folder)) (settings_after S laws folder ∙ is)
        ∙ by_run S laws (after S folder) values S.places
        ∙ all_pass S laws (after S folder) values hand (run_over S folder).files (to_run values S.places) visits
        (all_visited S.run values hand [] (stages_run S laws values) none ∙ ap length run)
        (subst (λ stages. ArePlaced S.run laws.makes values hand (run_over S folder).files stages visits) run placed)
        (left_by S laws folder values is same)

  end_by : (folder : Folder) (trace : Trace) → trace_of S folder ≡ trace
      → (made S folder).end ≡ end_of (cause_of trace.halt)
  unfolding made
  end_by folder trace same = ap (λ (trace : Trace). end_of (cause_of trace.halt)) same

never : (reason : ConfigFault) → end.BadInput ≡ end.Done → ⊥
never reason done = absurd (cc)

module _ (S : StageParts) (laws : AreStages S) where
  honest_passes : (folder : Folder) → IsKeptHonest S folder → (run_over S folder).end ≡ end.Done
      → check_of S (after S folder) ≡ None
  honest_passes folder honest done = by (sym (from_scratch S laws folder honest).end ∙ done)
    where
      by : (made S (hand_of folder)).end ≡ end.Done → check_of S (after S folder) ≡ None
      by done =
          traced S laws (hand_of folder)
          (λ trace. trace_of S (hand_of folder) ≡ trace → check_of S (after S folder) ≡ None)
          (λ reason is same.
          absurd (never reason
          (sym (end_by S laws (hand_of folder) (trace_under S (Err reason) (hand_of folder)) same) ∙ done)))
          (λ values is same. passes_under S laws folder values is
          (run_files S laws folder honest (chain S laws values (hand_of folder)) same)
          (no_cause (chain S laws values (hand_of folder)).halt
          (sym (end_by S laws (hand_of folder) (chain S laws values (hand_of folder)) same) ∙ done)))
          refl

  pub runs_pass : (by : Mode) (folder : Folder) → RunsPass S by folder
  unfolding RunsPass
  runs_pass by folder = λ trusts done. honest_passes (started by folder) (honest_start S laws by folder trusts) done

  -- so the folder passes that a finished run left
  pub passes_left : (by : Mode) (read : Folder) (left : Option Folder) → left ≡ Some (after S (started by read))
      → Trusts S by read → (run_over S (started by read)).end ≡ end.Done
      → IfSome left (λ folder. check_of S folder ≡ None)
  unfolding RunsPass
  passes_left by read left is trusts done =
      subst (λ left. IfSome left (λ folder. check_of S folder ≡ None)) (sym is) (runs_pass by read trusts done)
