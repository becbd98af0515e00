-- What the stages that are built make of hand files.
use Rattle.std.specs.Prelude.{ℕ, ℤ, List, [], ◌++◌, Option, Some, None, Result, Ok, Err}
use Rattle.std.specs.List.{flat_map, sum_by}
use Rattle.std.specs.Option.{option_map}
use Rattle.plan_files.specs.Folder.{Folder}
use Rattle.giv_files.specs.declared.made.Made.{Made}
use Rattle.giv_files.specs.declared.made.MadeFile.{MadeFile}
use Rattle.tables.specs.declared.refusal.Refusal.{Refusal}
use Rattle.giv_files.specs.Settings.{BundleParts}
use Rattle.config_keys.specs.declared.config_fault.ConfigFault.{ConfigFault}
use Rattle.config_keys.specs.Items.{look_in}
use Rattle.config_keys.specs.Values.{effective}
use Rattle.command_line.specs.declared.ends.RunEnd.{RunEnd}
use Rattle.stage_chain.specs.declared.cause.Cause.{Cause}
use Rattle.stage_chain.specs.declared.cause.Cause.TheVariants as cause
use Rattle.stage_chain.specs.Chain.{Visit, Halt, Trace, chain_from, handed, to_run}
use Rattle.stage_chain.specs.Reports.{stage_lines, last_line, end_of}
use Rattle.stage_chain.specs.StageParts.{StageParts, staged}

module _ (S : StageParts) where
  -- what the chain over hand files does, under settings or a fault of them, where each stage gives what
  -- a function says
  abbrev pub chain_under : (BundleParts → Result Made Refusal) → Result (List ℤ) ConfigFault → Folder
      → Trace
  chain_under solve (Err reason) hand =
      record { visits = []; halt = Some (record { cause = cause.BadConfig reason; given = None }) }
  chain_under solve (Ok values) hand = chain_from solve values hand [] (to_run values (staged S values))

  -- the same, where each stage is made
  abbrev pub trace_under : Result (List ℤ) ConfigFault → Folder → Trace
  trace_under settings hand = chain_under S.run settings hand

  -- what the chain over hand files does from scratch
  unfoldable pub trace_of : Folder → Trace
  trace_of hand = trace_under (effective (look_in hand)) hand

-- the files that were made, in order
abbrev pub files_of : List Visit → List MadeFile
files_of visits = flat_map (λ visit. visit.made.files) visits

-- why a chain ends early
abbrev pub cause_of : Option Halt → Option Cause
cause_of halt = option_map (λ halt. halt.cause) halt

-- what is made of hand files: the files, the report, how it ends, and how many steps it takes
pub record RunParts : Type 0 where
  pub files : List MadeFile
  pub report : List ℕ
  pub end : RunEnd
  pub work : ℕ

-- what a trace tells, where the work of a bundle is what a function says
abbrev pub told_by : (BundleParts → ℕ) → Trace → RunParts
told_by work trace = record {
  files = files_of trace.visits;
  report = stage_lines trace.visits ++ last_line (cause_of trace.halt);
  end = end_of (cause_of trace.halt);
  work = sum_by work (handed trace);
}

module _ (S : StageParts) where
  -- what the chain makes of hand files from scratch
  unfoldable pub made : Folder → RunParts
  made hand = told_by S.work (trace_of S hand)
