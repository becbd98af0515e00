use Rattle.plan_num.proofs.Common.{false, IfSome, drop}
use Rattle.plan_files.proofs.Common.{OnlyReads}
use Rattle.stage_chain.proofs.Stating.{LinesLeft}
use Rattle.stage_chain.proofs.states.told.Given as goal

-- the lines so far and those of the stages that are left make all of them, and no file has changed
abbrev pub invariant-loop-place : goal.invariant-loop-place
invariant-loop-place g l = record {
  reads : OnlyReads g.F.Files.contents g.F.Files.writes g.F.Files.faults l.initial.files l.files false;
  lines : IfSome (g.F.Files.contents l.initial.files)
      (LinesLeft g.S.Stages.parts g.met.S.Stages.laws l.config l.place-items (drop l.place-index l.place-items)
      l.known l.report.items);
}
