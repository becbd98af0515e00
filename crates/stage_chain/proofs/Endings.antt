-- A chain ends at a refusal exactly where a stage refuses what it is handed: one from scratch, and one over
-- what a folder keeps.
use Rattle.plan_num.proofs.Common.{◌≡◌, ℕ, ℤ, Bool, true, false, All, Contains, List, [], ◌∷◌, ◌++◌}
use Rattle.plan_num.proofs.Common.{Option, Some, None, IfErr, Result, Ok, Err, refl, sym, ◌∙◌}
use Rattle.plan_num.proofs.Common.{arith, All-cons, Contains-append_right, ⊤}
use Rattle.plan_files.specs.declared.store.Got.{Got}
use Rattle.plan_files.specs.declared.store.Got.TheVariants.{Bytes, Absent}
use Rattle.plan_files.proofs.Common.{Folder}
use Rattle.plan_files.specs.declared.store.Got.TheVariants.{TooLong as Long}
use Rattle.tables.specs.declared.file_id.FileId.{FileId}
use Rattle.tables.specs.declared.refusal.Refusal.{Refusal}
use Rattle.tables.proofs.Common.{file_name}
use Rattle.giv_files.specs.declared.made.Made.{Made}
use Rattle.giv_files.specs.declared.made.MadeFile.{MadeFile}
use Rattle.giv_files.specs.declared.stage.Stage.{Stage}
use Rattle.giv_files.proofs.Common.{BundleParts, Fits, stage_inputs}
use Rattle.config_keys.specs.declared.config_fault.ConfigFault.{ConfigFault}
use Rattle.config_keys.proofs.Common.{AreSettings, look_in, effective_settings}
use Rattle.stage_chain.specs.declared.cause.Cause.{Cause}
use Rattle.stage_chain.specs.declared.cause.Cause.TheVariants as cause
use Rattle.stage_chain.specs.declared.origin.Origin.{Origin}
use Rattle.stage_chain.specs.declared.origin.Origin.TheVariants as origin
use Rattle.stage_chain.specs.Built.{cause_of, trace_of}
use Rattle.stage_chain.specs.Chain.{Halt, Trace, Visit, bundle_told, chain_from, go_on, hand_text, handed}
use Rattle.stage_chain.specs.Chain.{input_text, made_text, solved, text_from, texts_of, tried}
use Rattle.stage_chain.specs.Chain.{visit_of, with_text}
use Rattle.stage_chain.specs.Kept.{solve_over, trace_over}
use Rattle.stage_chain.specs.StageParts.{StageParts}
use Rattle.stage_chain.specs.Laws.{AreStages}
use Rattle.stage_chain.proofs.MadeRight.{given_fits}
use Rattle.stage_chain.proofs.Traces.{stages_run, traced, traced_over}

-- ---- a text that is not there is no refusal of a stage

abbrev IsNoRefusal : Cause → Type 0
IsNoRefusal (cause.Refused at reason) = ⊥
IsNoRefusal _ = ⊤

abbrev NoneRefused : {T : Type 0} → Result T Cause → Type 0
NoneRefused told = IfErr told IsNoRefusal

hand_free : (optional : Bool) (file : FileId) (got : Got) → NoneRefused (hand_text optional file got)
hand_free optional file (Bytes text) = tt
hand_free true file Absent = tt
hand_free false file Absent = tt
hand_free optional file Long = tt

made_free : (made : List MadeFile) (file : FileId) → NoneRefused (made_text made file)
made_free [] file = tt
made_free (other ∷ made) file = grind (arith, made_free made file)

from_free : (from : Origin) (hand : Folder) (made : List MadeFile) (file : FileId)
    → NoneRefused (text_from from hand made file)
from_free origin.Needed hand made file = hand_free false file (look_in hand (file_name file))
from_free origin.Optional hand made file = hand_free true file (look_in hand (file_name file))
from_free origin.Earlier hand made file = made_free made file

with_free : (text : Result (List ℕ) Cause) (texts : Result (List (List ℕ)) Cause) → NoneRefused text
    → NoneRefused texts → NoneRefused (with_text text texts)
with_free (Err why) texts h k = h
with_free (Ok text) (Err why) h k = k
with_free (Ok text) (Ok texts) h k = tt

texts_free : (values : List ℤ) (hand : Folder) (made : List MadeFile) (files : List FileId)
    → NoneRefused (texts_of values hand made files)
texts_free values hand made [] = tt
texts_free values hand made (file ∷ files) =
    grind (arith, with_free, from_free, texts_free values hand made files)

told_free : (values : List ℤ) (at : Stage) (texts : Result (List (List ℕ)) Cause) → NoneRefused texts
    → NoneRefused (bundle_told values at texts)
told_free values at (Err why) h = h
told_free values at (Ok texts) h = tt

-- ---- what is handed to stages, and where one refuses it

module _ (run : BundleParts → Result Made Refusal) where
  -- what is handed to a stage fits it, and where the stage refuses it the chain ends so
  pub record IsHanded (halt : Option Halt) (bundle : BundleParts) : Type 0 where
    pub fits : Fits bundle
    pub refused : (reason : Refusal) → run bundle ≡ Err reason
        → cause_of halt ≡ Some (cause.Refused bundle.stage reason)

  -- a stage refused what it was handed
  pub record Refuses (trace : Trace) (at : Stage) (reason : Refusal) : Type 0 where
    pub bundle : BundleParts
    pub given : Contains (handed trace) bundle
    pub own : bundle.stage ≡ at
    pub refused : run bundle ≡ Err reason

  pub record EndsAtRefusals (trace : Trace) : Type 0 where
    pub all : All (IsHanded trace.halt) (handed trace)
    pub one : (at : Stage) (reason : Refusal) → cause_of trace.halt ≡ Some (cause.Refused at reason)
        → Refuses trace at reason

  never : (bundle : BundleParts) (made : Made) (reason : Refusal) → run bundle ≡ Ok made
      → run bundle ≡ Err reason → ⊥
  never bundle made reason is e = absurd (let both = sym is ∙ e in cc)

  module _ (values : List ℤ) (are : AreSettings values) (hand : Folder) where
    -- a stage more that was made
    made_more : (bundle : BundleParts) (made : Made) (rest : Trace) → Fits bundle → run bundle ≡ Ok made
        → EndsAtRefusals rest
        → EndsAtRefusals (go_on (Ok (record { bundle = bundle; made = made })) (λ _. rest))
    made_more bundle made rest fits is ends = record {
      all = grind (arith, All-cons, never);
      one = λ at reason halt.
          let more = ends.one at reason halt in
          record {
            bundle = more.bundle;
            given =
                Contains-append_right (bundle ∷ []) (handed rest) more.bundle more.given;
            own = more.own;
            refused =
                more.refused;
          };
    }

    -- a stage that refuses what it is handed ends the chain
    refused_last : (bundle : BundleParts) (reason : Refusal) (rest : Visit → Trace) → Fits bundle
        → run bundle ≡ Err reason
        → EndsAtRefusals (go_on (solved run values hand bundle (Err reason)) rest)
    refused_last bundle reason rest fits is = grind arith

    -- one that is not given its inputs ends it with no refusal
    none_given : (why : Cause) (rest : Visit → Trace) → IsNoRefusal why
        → EndsAtRefusals (go_on (Err (record { cause = why; given = None })) rest)
    none_given (cause.Refused at reason) rest free = absurd free
    none_given (cause.BadConfig reason) rest free =
        record { all = λ k d inside. absurd (omega (arith, inside)); one = λ at reason halt. absurd (cc) }
    none_given (cause.Missing file) rest free =
        record { all = λ k d inside. absurd (omega (arith, inside)); one = λ at reason halt. absurd (cc) }
    none_given (cause.TooLong file) rest free =
        record { all = λ k d inside. absurd (omega (arith, inside)); one = λ at reason halt. absurd (cc) }

    chain_ends : (before : List MadeFile) (stages : List Stage)
        → EndsAtRefusals (chain_from run values hand before stages)
    unfolding visit_of
    chain_ends before [] =
        record { all = λ k d inside. absurd (omega (arith, inside)); one = λ at reason halt. absurd (cc) }
    chain_ends before (at ∷ stages) =
        by (bundle_told values at (texts_of values hand before (stage_inputs at))) refl
        (told_free values at (texts_of values hand before (stage_inputs at))
        (texts_free values hand before (stage_inputs at)))
        (λ made. chain_ends (before ++ made) stages)
      where
        rest : Visit → Trace
        rest visit = chain_from run values hand (before ++ visit.made.files) stages

        More : Type 0
        More = (made : List MadeFile) → EndsAtRefusals (chain_from run values hand (before ++ made) stages)

        tries : More → (bundle : BundleParts) → Fits bundle → (result : Result Made Refusal) → run bundle ≡ result
            → EndsAtRefusals (go_on (solved run values hand bundle result) rest)
        tries more bundle fits (Ok made) is =
            made_more bundle made (rest (record { bundle = bundle; made = made })) fits is (more made.files)
        tries more bundle fits (Err reason) is = refused_last bundle reason rest fits is

        by : (told : Result BundleParts Cause)
            → bundle_told values at (texts_of values hand before (stage_inputs at)) ≡ told → NoneRefused told → More
            → EndsAtRefusals (go_on (tried run values hand told) rest)
        by (Err why) is free more = none_given why rest free
        by (Ok bundle) is free more =
            tries more bundle (given_fits (input_text hand before) values at bundle are is) (run bundle) refl

-- a chain whose settings are refused handed nothing to a stage
unsettled : (run : BundleParts → Result Made Refusal) (reason : ConfigFault)
    → EndsAtRefusals run (record { visits = []; halt = Some (record { cause = cause.BadConfig reason; given = None }) })
unsettled run reason = grind arith

module _ (S : StageParts) (laws : AreStages S) where
  pub ends_at_refusals : (hand : Folder) → EndsAtRefusals S.run (trace_of S hand)
  ends_at_refusals hand = traced S laws hand (EndsAtRefusals S.run)
      (λ reason is. unsettled S.run reason)
      (λ values is. chain_ends S.run values (effective_settings (look_in hand) values is) hand []
      (stages_run S laws values))

  pub ends_over_kept : (keep hand : Folder)
      → EndsAtRefusals (solve_over S keep) (trace_over S keep hand)
  ends_over_kept keep hand = traced_over S laws keep hand (EndsAtRefusals (solve_over S keep))
      (λ reason is. unsettled (solve_over S keep) reason)
      (λ values is. chain_ends (solve_over S keep) values (effective_settings (look_in hand) values is) hand []
      (stages_run S laws values))
