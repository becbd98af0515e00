use Rattle.plan_num.proofs.Common.{false, IfSome, drop}
use Rattle.plan_files.proofs.Common.{OnlyReads}
use Rattle.stage_chain.proofs.Stating.{AllLeft}
use Rattle.stage_chain.proofs.states.all_stand.Given as goal

-- the files so far stand, and no file has changed
abbrev pub invariant-loop-file : goal.invariant-loop-file
invariant-loop-file g l = record {
  reads : OnlyReads g.F.Files.contents g.F.Files.writes g.F.Files.faults l.initial.files l.files false;
  left : IfSome (g.F.Files.contents l.initial.files) (AllLeft l.made l.file-items (drop l.file-index l.file-items));
}
