-- One stage of a chain is run.
use Rattle.plan_num.proofs.Common.{◌≡◌, ℕ, ℤ, List, [], ◌∷◌, Option, Some, None, IfSome, Result, Ok}
use Rattle.plan_num.proofs.Common.{Err, refl, ap, sym, ◌∙◌, subst, arith}
use Rattle.plan_files.proofs.Common.{Folder}
use Rattle.giv_files.specs.declared.made.Made.{Made}
use Rattle.giv_files.specs.declared.made.MadeFile.{MadeFile}
use Rattle.giv_files.specs.declared.stage.Stage.{Stage}
use Rattle.giv_files.proofs.Common.{BundleParts, stage_inputs}
use Rattle.stage_chain.specs.declared.chain_end.ChainEnd.{ChainEnd}
use Rattle.stage_chain.specs.declared.chain_end.ChainEnd.TheVariants as end
use Rattle.stage_chain.specs.declared.cause.Cause.{Cause}
use Rattle.stage_chain.specs.declared.cause.Cause.TheVariants as cause
use Rattle.stage_chain.specs.Chain.{Visit, Halt, texts_of, bundle_told, solved, tried, visit_of}
use Rattle.stage_chain.specs.Ends.{Gives}
use Rattle.stage_chain.specs.Kept.{entry_put, kept_in, new_entry, solve_over, work_over}
use Rattle.stage_chain.specs.Progress.{SoFar, with_made, MakingGives, VisitGives, visit_work}
use Rattle.stage_chain.specs.StageParts.{StageParts}
use Rattle.stage_chain.specs.Laws.{AreStages}

module _ (S : StageParts) (laws : AreStages S) where
  -- the work of a bundle that is kept, and of one that is not
  kept_work : (keep : Folder) (bundle : BundleParts) (made : Made) → kept_in keep bundle ≡ Some made
      → work_over S keep bundle ≡ 0
  unfolding work_over
  kept_work keep bundle made is = rw is refl

  made_work : (keep : Folder) (bundle : BundleParts) → kept_in keep bundle ≡ None
      → work_over S keep bundle ≡ S.work bundle
  unfolding work_over
  made_work keep bundle is = rw is refl

  kept_solve : (keep : Folder) (bundle : BundleParts) (made : Made) → kept_in keep bundle ≡ Some made
      → solve_over S keep bundle ≡ Ok made
  unfolding solve_over
  kept_solve keep bundle made is = rw is refl

  made_solve : (keep : Folder) (bundle : BundleParts) → kept_in keep bundle ≡ None
      → solve_over S keep bundle ≡ S.run bundle
  unfolding solve_over
  made_solve keep bundle is = rw is refl

  module _ (values : List ℤ) (stage : Stage) (old new : SoFar) where
    -- what the stage is given, where some files were made
    abbrev pub told_with : List MadeFile → Folder → Result BundleParts Cause
    told_with made folder =
        bundle_told values stage (texts_of values folder made (stage_inputs stage))

    abbrev pub told_in : Folder → Result BundleParts Cause
    told_in folder = told_with old.files folder

    abbrev pub visit_in : Folder → Result Visit Halt
    visit_in folder = visit_of (solve_over S folder) values folder old.files stage

    given_work_is : (folder : Folder) (bundle : BundleParts) → told_in folder ≡ Ok bundle
        → visit_work S folder (visit_in folder) ≡ work_over S folder bundle
    unfolding visit_of
    given_work_is folder bundle told = grind arith

    visit_is : (folder : Folder) (bundle : BundleParts) → told_in folder ≡ Ok bundle
        → visit_in folder ≡ solved (solve_over S folder) values folder bundle (solve_over S folder bundle)
    unfolding visit_of
    visit_is folder bundle told = ap (tried (solve_over S folder) values folder) told

    -- an input is not there, or a file failed
    ungiven : (folder : Folder) (why : ChainEnd) (count : ℕ) → Gives {T = BundleParts} (told_in folder) (Err why)
        → VisitGives S folder (visit_in folder) old old count count (Err why)
    unfolding visit_of
    ungiven folder (end.Stopped why) count told =
        let none : visit_work S folder (visit_in folder) ≡ 0 = grind arith in
        grind arith
    ungiven folder end.FileFault count told = (omega arith, omega arith)
    ungiven folder end.NoMemory count told = (omega arith, omega arith)

    pub not_given : (contents : Option Folder) (made : List MadeFile) (why : ChainEnd) (count : ℕ)
        (result : Result (Unit {0}) ChainEnd) → made ≡ old.files → IfSome contents (λ folder. Gives {T =
        BundleParts} (told_with made folder) (Err why)) → result ≡ Err why
        → IfSome contents (λ folder. VisitGives S folder (visit_in folder) old old count count result)
    not_given None made why count result same told e = tt
    not_given (Some folder) made why count result same told e =
        rw e (ungiven folder why count
        (subst (λ files. Gives {T = BundleParts} (told_with files folder) (Err why)) same told))

    -- the stage is kept
    pub is_kept : (contents now : Option Folder) (files : List MadeFile) (bundle : BundleParts)
        (made : Made) (count : ℕ) → files ≡ old.files → now ≡ contents
        → IfSome contents (λ folder. told_with files folder ≡ Ok bundle)
        → IfSome now (λ folder. Some made ≡ kept_in folder bundle)
        → new ≡ with_made old made []
        → IfSome contents (λ folder. VisitGives S folder (visit_in folder) old new count count (Ok tt))
    is_kept None now files bundle made count same here told kept more = tt
    is_kept (Some folder) now files bundle made count same here given found more =
        let told : told_in folder ≡ Ok bundle = ap (λ files. told_with files folder) (sym same) ∙ given in
        let kept : kept_in folder bundle ≡ Some made = grind arith in
        let none : visit_work S folder (visit_in folder) ≡ 0 =
        given_work_is folder bundle told ∙ kept_work folder bundle made kept in
        let old_entry : new_entry folder (record { bundle = bundle; made = made }) ≡ [] = rw kept refl in (
          record { bundle = bundle; made = made },
          visit_is folder bundle told
              ∙ ap (solved (solve_over S folder) values folder bundle) (kept_solve folder bundle made kept),
          more ∙ ap (with_made old made) (sym old_entry),
          (λ not. absurd (never made (sym kept ∙ not))),
          omega (arith, none),
        )
      where
        never : (made : Made) → Some made ≡ None → ⊥
        never made e = cc

    -- the stage is not kept, and made, or it refuses what it is given
    making : (folder : Folder) (bundle : BundleParts) (before now : ℕ)
        (result : Result (Unit {0}) ChainEnd) → told_in folder ≡ Ok bundle
        → kept_in folder bundle ≡ None → MakingGives S bundle old new before now result
        → VisitGives S folder (visit_in folder) old new before now result
    making folder bundle before now (Ok _) told none (made, is, more, back, count) =
        let work : visit_work S folder (visit_in folder) ≡ S.work bundle =
        given_work_is folder bundle told ∙ made_work folder bundle none in
        let entry : new_entry folder (record { bundle = bundle; made = made }) ≡ entry_put bundle made ∷ [] =
        rw none refl in (
          record { bundle = bundle; made = made },
          visit_is folder bundle told
              ∙ ap (solved (solve_over S folder) values folder bundle) (made_solve folder bundle none ∙ is),
          more ∙ ap (with_made old made) (sym entry),
          (λ _. back),
          omega (arith, count, work),
        )
    making folder bundle before now (Err (end.Stopped why)) told none (reason, is, own, more, count) =
        let work : visit_work S folder (visit_in folder) ≡ S.work bundle =
        given_work_is folder bundle told ∙ made_work folder bundle none in (
          record { cause = cause.Refused bundle.stage reason; given = Some bundle },
          visit_is folder bundle told
              ∙ ap (solved (solve_over S folder) values folder bundle) (made_solve folder bundle none ∙ is),
          sym own,
          more,
          omega (arith, count, work),
        )
    making folder bundle before now (Err end.FileFault) told none (least, most) =
        let work : visit_work S folder (visit_in folder) ≡ S.work bundle =
        given_work_is folder bundle told ∙ made_work folder bundle none in grind arith
    making folder bundle before now (Err end.NoMemory) told none (least, most) =
        let work : visit_work S folder (visit_in folder) ≡ S.work bundle =
        given_work_is folder bundle told ∙ made_work folder bundle none in grind arith

    pub is_making : (contents now : Option Folder) (files : List MadeFile) (bundle : BundleParts)
        (before count : ℕ) (result : Result (Unit {0}) ChainEnd) → files ≡ old.files → now ≡ contents
        → IfSome contents (λ folder. told_with files folder ≡ Ok bundle)
        → IfSome now (λ folder. None ≡ kept_in folder bundle)
        → MakingGives S bundle old new before count result
        → IfSome contents (λ folder. VisitGives S folder (visit_in folder) old new before count result)
    is_making None now files bundle before count result same here told none gives = tt
    is_making (Some folder) now files bundle before count result same here given found gives =
        grind (arith, making)
