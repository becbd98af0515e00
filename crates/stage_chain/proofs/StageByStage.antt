-- A chain goes stage by stage.
use Rattle.plan_num.proofs.Common.{◌≡◌, ℕ, ℤ, ◌+◌, ◌<◌, ◌≤◌, Bool, true, false, leb, List, [], ◌++◌}
use Rattle.plan_num.proofs.Common.{length, get_or, drop, Option, Some, None, IfSome, Result, Ok}
use Rattle.plan_num.proofs.Common.{Err, refl, ap, ◌∙◌, subst, arith, append-nil, append_assoc}
use Rattle.plan_num.proofs.Common.{sum_by, at_drop_more, at_drop_all, sum_by-cons}
use Rattle.plan_files.proofs.Common.{Folder}
use Rattle.giv_files.specs.declared.made.Made.{Made}
use Rattle.giv_files.specs.declared.made.MadeFile.{MadeFile}
use Rattle.giv_files.specs.declared.stage.Stage.{Stage}
use Rattle.giv_files.proofs.Common.{BundleParts}
use Rattle.tables.specs.declared.refusal.Refusal.{Refusal}
use Rattle.config_keys.proofs.Common.{last_stage_of}
use Rattle.stage_chain.specs.declared.chain_end.ChainEnd.{ChainEnd}
use Rattle.stage_chain.specs.declared.chain_end.ChainEnd.TheVariants as end
use Rattle.stage_chain.specs.Chain.{Visit, Halt, Trace, go_on, handed, handed_once, visit_of}
use Rattle.stage_chain.specs.Chain.{chain_from, to_run, stage_place}
use Rattle.stage_chain.specs.Built.{cause_of}
use Rattle.stage_chain.specs.Kept.{HasEntry, kept_in, work_over}
use Rattle.stage_chain.specs.Progress.{SoFar, nothing, with_visit, VisitGives, visit_work}
use Rattle.stage_chain.specs.Progress.{IsAll, ChainGives, trace_work}
use Rattle.stage_chain.specs.StageParts.{StageParts}
use Rattle.stage_chain.proofs.Rests.{IsRest}
use Rattle.stage_chain.specs.Laws.{AreStages}

module _ (S : StageParts) (laws : AreStages S) where
  -- ---- one step of a chain

  module _ (keep : Folder) where
    abbrev work : BundleParts → ℕ
    work = work_over S keep

    handed_more : (rest : Trace) (visit : Visit)
        → sum_by work (handed (go_on (Ok visit) (λ _. rest))) ≡ work visit.bundle + sum_by work (handed rest)
    handed_more rest visit = sum_by-cons work visit.bundle (handed rest)

    handed_here : (visit : Visit) → sum_by work (handed_once (Ok visit)) ≡ work visit.bundle
    handed_here visit = omega arith

    -- before the first stage
    pub rest_first : (whole : Trace) (before : ℕ) → IsRest S keep whole whole nothing before before
    rest_first whole before =
        record { files = refl; report = refl; entries = refl; have = λ h. h; steps = refl; halt = refl }

    -- behind a stage that was made
    pub rest_more : (whole rest : Trace) (visit : Visit) (so_far : SoFar) (before mid now : ℕ)
        → now ≡ mid + visit_work S keep (Ok visit)
        → (kept_in keep visit.bundle ≡ None → HasEntry visit)
        → IsRest S keep whole (go_on (Ok visit) (λ _. rest)) so_far before mid
        → IsRest S keep whole rest (with_visit S keep so_far visit) before now
    rest_more whole rest visit so_far before mid now e own h =
        grind (arith, handed_more, handed_here, append_assoc)

    -- behind the last stage
    pub rest_none : (whole : Trace) (so_far : SoFar) (before now : ℕ)
        → IsRest S keep whole (record { visits = []; halt = None }) so_far before now → (cause_of whole.halt ≡ None)
        × IsAll S keep whole so_far × (now ≡ before + trace_work S keep whole)
    rest_none whole so_far before now h = grind (arith, append-nil)

    -- where a stage ends the chain
    pub rest_stops : (whole : Trace) (halt : Halt) (so_far : SoFar) (before mid now : ℕ)
        → IsRest S keep whole (go_on (Err halt) (λ _. whole)) so_far before mid
        → now ≡ mid + visit_work S keep (Err halt)
        → (cause_of whole.halt ≡ Some halt.cause) × IsAll S keep whole so_far × (now ≡ before + trace_work S keep whole)
    rest_stops whole halt so_far before mid now h e = grind (arith, append-nil)

    -- a stage that is not finished takes at most its work
    pub rest_bounds : (whole : Trace) (told : Result Visit Halt) (rest : Visit → Trace)
        (so_far : SoFar) (before mid now : ℕ) → IsRest S keep whole (go_on told rest) so_far before mid
        → now ≤ mid + visit_work S keep told → now ≤ before + trace_work S keep whole
    rest_bounds whole (Ok visit) rest so_far before mid now h few =
        grind (arith, handed_more, handed_here)
    rest_bounds whole (Err halt) rest so_far before mid now h few = omega (arith, h.steps, few)

-- ---- the stages of a list

-- a stage does not come after the last one
abbrev pub in_time : List ℤ → Stage → Bool
in_time values stage = leb (stage_place stage) (stage_place (last_stage_of values))

module _ (S : StageParts) (laws : AreStages S) where
  module _ (solve : BundleParts → Result Made Refusal) (values : List ℤ) (folder : Folder) where
    -- what is still to run, where so many files were made
    abbrev pub still : List MadeFile → List Stage → Trace
    still made stages = chain_from solve values folder made (to_run values stages)

    still_here : (stages : List Stage) (i : ℕ) (d : Stage) (made : List MadeFile) → i < length stages
        → in_time values (get_or stages i d) ≡ true
        → still made (drop i stages)
        ≡ go_on (visit_of solve values folder made (get_or stages i d))
        (λ visit. still (made ++ visit.made.files) (drop (i + 1) stages))
    still_here stages i d made inside is =
        at_drop_more (λ rest. still made rest) stages i d inside ∙ rw is refl

    pub still_later : (stages : List Stage) (i : ℕ) (d : Stage) (made : List MadeFile)
        → i < length stages → in_time values (get_or stages i d) ≡ false
        → still made (drop i stages) ≡ still made (drop (i + 1) stages)
    still_later stages i d made inside is =
        at_drop_more (λ rest. still made rest) stages i d inside ∙ rw is refl

    pub still_none : (stages : List Stage) (i : ℕ) (made : List MadeFile) → length stages ≤ i
        → still made (drop i stages) ≡ record {
          visits =
              [];
          halt = None;
        }
    still_none stages i made past = at_drop_all (λ rest. still made rest) stages i past

    module _ (keep : Folder) where
      -- one stage was made
      pub made_more : (stages : List Stage) (i : ℕ) (d : Stage) (whole : Trace) (old new : SoFar)
          (before mid now : ℕ) → i < length stages → in_time values (get_or stages i d) ≡ true
          → VisitGives S keep (visit_of solve values folder old.files (get_or stages i d)) old new mid now (Ok tt)
          → IsRest S keep whole (still old.files (drop i stages)) old before mid
          → IsRest S keep whole (still new.files (drop (i + 1) stages)) new before now
      made_more stages i d whole old new before mid now inside is told h =
          let visit = told.0 in
          let here : still old.files (drop i stages)
          ≡ go_on (Ok visit) (λ visit. still (old.files ++ visit.made.files) (drop (i + 1) stages)) =
          still_here stages i d old.files inside is
          ∙ ap (λ t. go_on t (λ visit. still (old.files ++ visit.made.files) (drop (i + 1) stages))) told.1 in
          let so : IsRest S keep whole (still (old.files ++ visit.made.files) (drop (i + 1) stages))
          (with_visit S keep old visit) before now =
          rest_more S laws keep whole (still (old.files ++ visit.made.files) (drop (i + 1) stages)) visit old before
          mid now (told.4 ∙ ap (λ t. mid + visit_work S keep t) told.1) told.3
          (subst (λ rest. IsRest S keep whole rest old before mid) here h) in
          rw told.2 so

      -- a stage that does not run leaves all as it is
      pub made_same : (stages : List Stage) (i : ℕ) (d : Stage) (whole : Trace) (so_far : SoFar)
          (before now : ℕ) → i < length stages → in_time values (get_or stages i d) ≡ false
          → IsRest S keep whole (still so_far.files (drop i stages)) so_far before now
          → IsRest S keep whole (still so_far.files (drop (i + 1) stages)) so_far before now
      made_same stages i d whole so_far before now inside is h =
          subst (λ rest. IsRest S keep whole rest so_far before now) (still_later stages i d so_far.files inside is) h

      -- one stage ends the chain
      pub ended : (stages : List Stage) (i : ℕ) (d : Stage) (whole : Trace) (old new : SoFar)
          (before mid now : ℕ) (why : ChainEnd) → i < length stages
          → in_time values (get_or stages i d) ≡ true → before ≤ mid
          → VisitGives S keep (visit_of solve values folder old.files (get_or stages i d)) old new mid now (Err why)
          → IsRest S keep whole (still old.files (drop i stages)) old before mid
          → ChainGives S keep whole new before now (Err why)
      ended stages i d whole old new before mid now (end.Stopped why) inside is least told h =
          let halt = told.0 in
          let here : still old.files (drop i stages) ≡ go_on (Err halt) (λ _. whole) = still_here stages i d old.files
          inside is ∙ ap (λ t. go_on t (λ visit. still (old.files ++ visit.made.files) (drop (i + 1) stages))) told.1 in
          let done = rest_stops S laws keep whole halt old before mid now
          (subst (λ rest. IsRest S keep whole rest old before mid) here h)
          (told.4 ∙ ap (λ t. mid + visit_work S keep t) told.1) in grind arith
      ended stages i d whole old new before mid now end.FileFault inside is least told h = (
        omega (arith, least, told.0),
        rest_bounds S laws keep whole _ _ old before mid now
            (subst (λ rest. IsRest S keep whole rest old before mid) (still_here stages i d old.files inside is) h)
            told.1,
      )
      ended stages i d whole old new before mid now end.NoMemory inside is least told h = (
        omega (arith, least, told.0),
        rest_bounds S laws keep whole _ _ old before mid now
            (subst (λ rest. IsRest S keep whole rest old before mid) (still_here stages i d old.files inside is) h)
            told.1,
      )

      -- all stages were made
      pub finished : (stages : List Stage) (i : ℕ) (whole : Trace) (so_far : SoFar) (before now : ℕ)
          → length stages ≤ i
          → IsRest S keep whole (still so_far.files (drop i stages)) so_far before now
          → (cause_of whole.halt ≡ None) × IsAll S keep whole so_far × (now ≡ before + trace_work S keep whole)
      finished stages i whole so_far before now past h =
          rest_none S laws keep whole so_far before now
          (subst (λ rest. IsRest S keep whole rest so_far before now) (still_none stages i so_far.files past) h)

  -- ---- the same in a folder that may be told

  module _ (solve : Folder → BundleParts → Result Made Refusal) where
    module _ (contents : Option Folder) (values : List ℤ) (stages : List Stage) where
      -- the whole chain, and what is still to run from a place on
      abbrev pub IsRestAt : ℕ → SoFar → ℕ → ℕ → Type 0
      IsRestAt i so_far before now =
          IfSome contents
          (λ folder. IsRest S folder (still (solve folder) values folder [] stages)
          (still (solve folder) values folder so_far.files (drop i stages)) so_far before now)

      pub told_first : (so_far : SoFar) (before : ℕ) → so_far ≡ nothing
          → IsRestAt 0 so_far before before
      told_first so_far before e = grind (arith, IsRest, rest_first)

    module _ (values : List ℤ) (stages : List Stage) (i : ℕ) (d : Stage) (inside : i < length stages) where
      pub told_more : (contents now : Option Folder) (old new : SoFar) (before mid count : ℕ)
          → in_time values (get_or stages i d) ≡ true → now ≡ contents
          → IfSome now
          (λ folder. VisitGives S folder (visit_of (solve folder) values folder old.files (get_or stages i d)) old new
          mid count (Ok tt))
          → IsRestAt contents values stages i old before mid
          → IsRestAt contents values stages (i + 1) new before count
      told_more None now old new before mid count is same told h = tt
      told_more (Some folder) now old new before mid count is same told h =
          let here : IfSome (Some folder)
          (λ folder. VisitGives S folder (visit_of (solve folder) values folder old.files (get_or stages i d)) old
          new mid count (Ok tt)) = rw same at told in
          made_more (solve folder) values folder folder stages i d (still (solve folder) values folder [] stages) old
          new before mid count inside is here h

      pub told_same : (contents : Option Folder) (so_far : SoFar) (before now : ℕ)
          → in_time values (get_or stages i d) ≡ false
          → IsRestAt contents values stages i so_far before now
          → IsRestAt contents values stages (i + 1) so_far before now
      told_same None so_far before now is h = tt
      told_same (Some folder) so_far before now is h =
          made_same (solve folder) values folder folder stages i d (still (solve folder) values folder [] stages)
          so_far before now inside is h

      pub told_ended : (all : List Stage) → stages ≡ all → (contents now : Option Folder)
          (old new : SoFar) (before mid count : ℕ) (why : ChainEnd)
          (result : Result (Unit {0}) ChainEnd) → in_time values (get_or stages i d) ≡ true
          → now ≡ contents → before ≤ mid
          → IfSome now
          (λ folder. VisitGives S folder (visit_of (solve folder) values folder old.files (get_or stages i d)) old new
          mid count (Err why))
          → IsRestAt contents values stages i old before mid → result ≡ Err why
          → IfSome contents
          (λ folder. ChainGives S folder (still (solve folder) values folder [] all) new before count result)
      told_ended all whole None now old new before mid count why result is same least told h e = tt
      told_ended all whole (Some folder) now old new before mid count why result is same least told h e =
          grind (arith, get_or, ended)

    pub told_finished : (contents : Option Folder) (values : List ℤ) (stages all : List Stage) (i : ℕ)
        (so_far : SoFar) (before now : ℕ) → length stages ≤ i → stages ≡ all
        → IsRestAt contents values stages i so_far before now
        → IfSome contents
        (λ folder. ChainGives S folder (still (solve folder) values folder [] all) so_far before now (Ok tt))
    told_finished None values stages all i so_far before now past same h = tt
    told_finished (Some folder) values stages all i so_far before now past same h =
        subst (λ stages. ChainGives S folder (still (solve folder) values folder [] stages) so_far before now (Ok tt))
        same (finished (solve folder) values folder folder stages i (still (solve folder) values folder [] stages)
        so_far before now past h)
