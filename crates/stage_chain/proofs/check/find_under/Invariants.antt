use Rattle.plan_num.proofs.Common.{false, IfSome, drop}
use Rattle.plan_files.proofs.Common.{OnlyReads}
use Rattle.stage_chain.proofs.Judging.{FirstLeft}
use Rattle.stage_chain.proofs.Passed.{RestStands}
use Rattle.stage_chain.proofs.check.find_under.Given as goal

-- nothing was found of the stages so far, which stand, and no file has changed
abbrev pub invariant-loop-place : goal.invariant-loop-place
invariant-loop-place g l = record {
  reads : OnlyReads g.F.Files.contents g.F.Files.writes g.F.Files.faults l.initial.files l.files false;
  left : IfSome (g.F.Files.contents l.initial.files)
      (FirstLeft g.S.Stages.parts g.met.S.Stages.laws l.config l.place-items (drop l.place-index l.place-items));
  rest : IfSome (g.F.Files.contents l.initial.files)
      (RestStands g.S.Stages.parts g.met.S.Stages.laws l.config l.place-items (drop l.place-index l.place-items));
}
