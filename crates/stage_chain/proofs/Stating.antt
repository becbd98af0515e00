-- The states of the stages, one after the other.
use Rattle.plan_num.proofs.Common.{arith, ◌≡◌, ℕ, ℤ, ◌+◌, ◌<◌, ◌≤◌, cond, List, ◌∷◌, ◌++◌, length}
use Rattle.plan_num.proofs.Common.{slice_get, get_or, drop, Option, Some, None, IfSome, IfOk}
use Rattle.plan_num.proofs.Common.{Result, Ok, Err, refl, ap, sym, subst, ◌∙◌, append-nil}
use Rattle.plan_num.proofs.Common.{append_assoc, list_all, at_drop_more, at_drop_all}
use Rattle.plan_num.proofs.Common.{get_or_from_slice_get, slice_get_within}
use Rattle.stage_chain.specs.States.{holding_in}
use Rattle.plan_files.proofs.Common.{Folder}
use Rattle.tables.specs.declared.file_id.FileId.{FileId}
use Rattle.giv_files.specs.declared.made.MadeFile.{MadeFile}
use Rattle.giv_files.specs.declared.stage.Stage.{Stage}
use Rattle.config_keys.specs.declared.config_end.ConfigEnd.{ConfigEnd}
use Rattle.config_keys.specs.declared.config_fault.ConfigFault.{ConfigFault}
use Rattle.config_keys.proofs.Common.{ConfigGives, look_in, effective}
use Rattle.config_keys.specs.declared.config_end.ConfigEnd.TheVariants as config
use Rattle.config_keys.specs.Ends.{is_broken as config_broken}
use Rattle.stage_chain.specs.declared.outcome.ChainFault.{ChainFault}
use Rattle.stage_chain.specs.declared.state.StatesEnd.TheVariants as end
use Rattle.stage_chain.specs.declared.state.StatesOutcome.{StatesOutcome}
use Rattle.stage_chain.specs.Chain.{is_file}
use Rattle.stage_chain.specs.Ends.{has_failed}
use Rattle.stage_chain.specs.States.{KnownFiles, TellsStates, UntoldAs, known_with, nothing_known}
use Rattle.stage_chain.specs.States.{stands_as, state_by, state_line, state_lines, states_end}
use Rattle.stage_chain.specs.States.{states_end_under, states_of, states_under, text_among}
use Rattle.stage_chain.specs.StageParts.{StageParts}
use Rattle.stage_chain.specs.Laws.{AreStages}

-- ---- the files of a stage that are kept

-- the text of a file among those from a place on
pub text_next : (made : List MadeFile) (i : ℕ) (other : MadeFile) (file : FileId)
    → slice_get made i ≡ Some other
    → text_among (drop i made) file
    ≡ cond (is_file other.file file) (Some other.text) (text_among (drop (i + 1) made) file)
text_next made i other file there =
    at_drop_more (λ rest. text_among rest file) made i other (slice_get_within made i other there)
    ∙ ap (λ (first : MadeFile). text_among (first ∷ drop (i + 1) made) file)
    (get_or_from_slice_get made i other other there)

module _ (made : List MadeFile) where
  -- those before the rest stand as they were made
  abbrev pub AllLeft : List FileId → List FileId → Folder → Type 0
  AllLeft files rest folder =
      list_all (stands_as folder made) rest ≡ list_all (stands_as folder made) files

module _ (S : StageParts) (laws : AreStages S) where
  -- ---- stages one after the other

  module _ (values : List ℤ) where
    -- the lines so far and those of the rest are the lines of all
    abbrev pub LinesLeft : List Stage → List Stage → KnownFiles → List ℕ → Folder → Type 0
    LinesLeft stages rest known lines folder =
        lines ++ state_lines S folder values known rest ≡ state_lines S folder values nothing_known stages

    abbrev line_at : Folder → KnownFiles → Stage → List ℕ
    line_at folder known stage = state_line stage (state_by folder stage (holding_in S folder values known stage))

    abbrev known_at : Folder → KnownFiles → Stage → KnownFiles
    known_at folder known stage = known_with known stage (holding_in S folder values known stage)

    -- one line more
    pub lines_more : (contents now : Option Folder) (stages : List Stage) (i : ℕ) (d : Stage)
        (known next : KnownFiles) (lines longer : List ℕ) → i < length stages → now ≡ contents
        → IfSome now (λ folder. next ≡ known_at folder known (get_or stages i d))
        → IfSome now (λ folder. longer ≡ lines ++ line_at folder known (get_or stages i d))
        → IfSome contents (LinesLeft stages (drop i stages) known lines)
        → IfSome contents (LinesLeft stages (drop (i + 1) stages) next longer)
    lines_more None now stages i d known next lines longer inside same is more so_far = tt
    lines_more (Some folder) now stages i d known next lines longer inside same is more so_far =
        let stage = get_or stages i d in
        let here : next ≡ known_at folder known stage = rw same at is in
        let line : longer ≡ lines ++ line_at folder known stage = rw same at more in
        ap (λ known. longer ++ state_lines S folder values known (drop (i + 1) stages)) here
        ∙ ap (λ lines. lines ++ state_lines S folder values (known_at folder known stage) (drop (i + 1) stages)) line
        ∙ append_assoc lines (line_at folder known stage)
        (state_lines S folder values (known_at folder known stage) (drop (i + 1) stages))
        ∙ sym (at_drop_more (λ rest. lines ++ state_lines S folder values known rest) stages i d inside)
        ∙ so_far

    -- all lines
    pub lines_all : (contents : Option Folder) (stages : List Stage) (i : ℕ) (known : KnownFiles)
        (lines text : List ℕ) → length stages ≤ i → stages ≡ S.places → text ≡ lines
        → IfSome contents (LinesLeft stages (drop i stages) known lines)
        → IfSome contents (λ folder. text ≡ state_lines S folder values nothing_known S.places)
    lines_all None stages i known lines text past own is so_far = tt
    lines_all (Some folder) stages i known lines text past own is so_far =
        is ∙ sym (append-nil lines)
        ∙ sym (at_drop_all (λ rest. lines ++ state_lines S folder values known rest) stages i past)
        ∙ so_far ∙ ap (state_lines S folder values nothing_known) own

  -- ---- the settings

  told_by : (folder : Folder) (settings : Result (List ℤ) ConfigFault) (outcome : StatesOutcome)
      → effective (look_in folder) ≡ settings → outcome.end ≡ states_end_under settings
      → outcome.report ≡ states_under S settings folder → TellsStates S folder outcome
  unfolding states_of states_end
  told_by folder settings outcome is ends told = grind arith

  pub settled_states : (contents now : Option Folder) (values : List ℤ)
      (result : Result StatesOutcome ChainFault) → now ≡ contents
      → IfSome contents (λ folder. ConfigGives (effective (look_in folder)) (Ok values))
      → IfOk result (λ outcome. outcome.end ≡ end.Told)
      → IfSome now
      (λ folder. IfOk result (λ outcome. outcome.report ≡ state_lines S folder values nothing_known S.places))
      → IfSome contents (λ folder. IfOk result (TellsStates S folder))
  settled_states None now values result same told ends h = tt
  settled_states (Some folder) now values (Err fault) same told ends h = tt
  settled_states (Some folder) now values (Ok outcome) same told ends h =
      told_by folder (Ok values) outcome told ends
      (subst (λ now. IfSome now (λ folder. outcome.report ≡ state_lines S folder values nothing_known S.places)) same h)

  untold_ok : (folder : Folder) (reason : ConfigFault) (result : Result StatesOutcome ChainFault)
      → effective (look_in folder) ≡ Err reason → UntoldAs (config.Refused reason) result
      → IfOk result (TellsStates S folder)
  untold_ok folder reason (Err fault) told is = tt
  untold_ok folder reason (Ok outcome) told is = told_by folder (Err reason) outcome told is.1.0 is.1.1

  untold_in : (folder : Folder) (ended : ConfigEnd) (result : Result StatesOutcome ChainFault)
      → ConfigGives (effective (look_in folder)) (Err ended) → UntoldAs ended result
      → IfOk result (TellsStates S folder)
  untold_in folder (config.Refused reason) result told is = untold_ok folder reason result told is
  untold_in folder config.FileFault result told is = rw is tt
  untold_in folder config.NoMemory result told is = rw is tt

  pub unsettled_states : (contents : Option Folder) (ended : ConfigEnd)
      (result : Result StatesOutcome ChainFault)
      → IfSome contents (λ folder. ConfigGives (effective (look_in folder)) (Err ended))
      → UntoldAs ended result → IfSome contents (λ folder. IfOk result (TellsStates S folder))
  unsettled_states None ended result told is = tt
  unsettled_states (Some folder) ended result told is = untold_in folder ended result told is

pub untold_failed : (ended : ConfigEnd) (result : Result StatesOutcome ChainFault)
    → UntoldAs ended result → config_broken {T = List ℤ} (Err ended) ≡ has_failed result
untold_failed (config.Refused reason) result is = sym is.0
untold_failed config.FileFault result is = rw is refl
untold_failed config.NoMemory result is = rw is refl
