-- What a chain has made so far, and what is still to come.
use Rattle.std.specs.Prelude.{ℕ, ◌≡◌, ◌≤◌, ◌+◌, List, [], ◌∷◌, ◌++◌, Option, Some, None, Result, Ok, Err}
use Rattle.std.specs.Prelude.{⊤}
use Rattle.std.specs.List.{sum_by}
use Rattle.plan_files.specs.declared.write.Write.{Write}
use Rattle.plan_files.specs.Folder.{Folder}
use Rattle.plan_files.specs.Others.{AreOutside}
use Rattle.giv_files.specs.declared.made.Made.{Made}
use Rattle.giv_files.specs.declared.made.MadeFile.{MadeFile}
use Rattle.tables.specs.declared.refusal.Refusal.{Refusal}
use Rattle.giv_files.specs.Settings.{BundleParts}
use Rattle.stage_chain.specs.declared.chain_end.ChainEnd.{ChainEnd}
use Rattle.stage_chain.specs.declared.chain_end.ChainEnd.TheVariants as end
use Rattle.stage_chain.specs.declared.outcome.ChainFault.{ChainFault}
use Rattle.stage_chain.specs.declared.cause.Cause.{Cause}
use Rattle.stage_chain.specs.Chain.{Visit, Halt, Trace, handed, handed_once}
use Rattle.stage_chain.specs.Hand.{AreNoHandFiles, is_hand}
use Rattle.stage_chain.specs.Reports.{stage_lines, line_of}
use Rattle.stage_chain.specs.declared.cause.Cause.TheVariants as cause
use Rattle.stage_chain.specs.Built.{files_of, cause_of}
use Rattle.stage_chain.specs.Kept.{HaveEntries, HasEntry, entry_put, kept_in, new_entries, new_entry, work_over}
use Rattle.stage_chain.specs.StageParts.{StageParts}

-- the files that were made so far, the report so far, and the writes of new entries
pub record SoFar : Type 0 where
  pub files : List MadeFile
  pub report : List ℕ
  pub entries : List Write

-- before the first stage
abbrev pub nothing : SoFar
nothing = record { files = []; report = []; entries = [] }

-- with one stage more, and its entry where that is new
abbrev pub with_made : SoFar → Made → List Write → SoFar
with_made so_far made entry = record {
  files = so_far.files ++ made.files;
  report = so_far.report ++ line_of made.report;
  entries = so_far.entries ++ entry;
}

-- no file that was made so far is one that people write, and no entry is put under such a name
pub record NamesNoHand (so_far : SoFar) : Type 0 where
  pub files : AreNoHandFiles so_far.files
  pub entries : AreOutside is_hand so_far.entries

-- unless a file failed or memory was refused, that is so
abbrev pub HasNoHandFile : {T : Type 0} → SoFar → Result T ChainEnd → Type 0
HasNoHandFile so_far (Ok _) = NamesNoHand so_far
HasNoHandFile so_far (Err (end.Stopped why)) = NamesNoHand so_far
HasNoHandFile so_far (Err end.FileFault) = ⊤
HasNoHandFile so_far (Err end.NoMemory) = ⊤

module _ (S : StageParts) where
  -- what making a stage gives that is not kept: it is made, and its entry is new, or it
  -- refuses what it is given; after a fault the count rose by at most its work
  abbrev pub MakingGives : BundleParts → SoFar → SoFar → ℕ → ℕ → Result (Unit {0}) ChainEnd → Type 0
  MakingGives bundle old new before now (Ok _) =
      (made : Made) × (S.run bundle ≡ Ok made) × (new ≡ with_made old made (entry_put bundle made ∷ []))
      × HasEntry (record { bundle = bundle; made = made }) × (now ≡ before + S.work bundle)
  MakingGives bundle old new before now (Err (end.Stopped why)) =
      (reason : Refusal) × (S.run bundle ≡ Err reason) × (why ≡ cause.Refused bundle.stage reason) × (new ≡ old)
      × (now ≡ before + S.work bundle)
  MakingGives bundle old new before now (Err end.FileFault) =
      (before ≤ now) × (now ≤ before + S.work bundle)
  MakingGives bundle old new before now (Err end.NoMemory) =
      (before ≤ now) × (now ≤ before + S.work bundle)

  module _ (keep : Folder) where
    -- with one stage more, over what a folder keeps
    abbrev pub with_visit : SoFar → Visit → SoFar
    with_visit so_far visit = with_made so_far visit.made (new_entry keep visit)

    -- all that a chain made, and what is written of it are entries
    pub record IsAll (trace : Trace) (so_far : SoFar) : Type 0 where
      pub files : files_of trace.visits ≡ so_far.files
      pub report : stage_lines trace.visits ≡ so_far.report
      pub entries : new_entries keep trace.visits ≡ so_far.entries
      pub have : HaveEntries keep trace.visits

    -- the work of one stage, and that of a whole chain
    abbrev pub visit_work : Result Visit Halt → ℕ
    visit_work told = sum_by (work_over S keep) (handed_once told)

    abbrev pub trace_work : Trace → ℕ
    trace_work trace = sum_by (work_over S keep) (handed trace)

    -- what one stage gives: it is made, or the chain stops there; after a fault the count rose by at
    -- most its work
    abbrev pub VisitGives : Result Visit Halt → SoFar → SoFar → ℕ → ℕ → Result (Unit {0}) ChainEnd
        → Type 0
    VisitGives told old new before now (Ok _) =
        (visit : Visit) × (told ≡ Ok visit) × (new ≡ with_visit old visit)
        × (kept_in keep visit.bundle ≡ None → HasEntry visit) × (now ≡ before + visit_work told)
    VisitGives told old new before now (Err (end.Stopped why)) =
        (halt : Halt) × (told ≡ Err halt) × (halt.cause ≡ why) × (new ≡ old) × (now ≡ before + visit_work told)
    VisitGives told old new before now (Err end.FileFault) =
        (before ≤ now) × (now ≤ before + visit_work told)
    VisitGives told old new before now (Err end.NoMemory) =
        (before ≤ now) × (now ≤ before + visit_work told)

    -- what running a chain gives: all of it is made up to where it ends; after a fault the count rose
    -- by at most its work
    abbrev pub ChainGives : Trace → SoFar → ℕ → ℕ → Result (Unit {0}) ChainEnd → Type 0
    ChainGives trace new before now (Ok _) =
        (cause_of trace.halt ≡ None) × IsAll trace new × (now ≡ before + trace_work trace)
    ChainGives trace new before now (Err (end.Stopped why)) =
        (cause_of trace.halt ≡ Some why) × IsAll trace new × (now ≡ before + trace_work trace)
    ChainGives trace new before now (Err end.FileFault) =
        (before ≤ now) × (now ≤ before + trace_work trace)
    ChainGives trace new before now (Err end.NoMemory) =
        (before ≤ now) × (now ≤ before + trace_work trace)

    -- what running a chain to its end gives: all of it, and why it ended early, if it did
    abbrev pub EndGives : Trace → SoFar → ℕ → ℕ → Result (Option Cause) ChainFault → Type 0
    EndGives trace new before now (Ok why) =
        (cause_of trace.halt ≡ why) × IsAll trace new × (now ≡ before + trace_work trace)
    EndGives trace new before now (Err fault) = (before ≤ now) × (now ≤ before + trace_work trace)
