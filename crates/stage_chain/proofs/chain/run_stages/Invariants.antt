use Rattle.plan_num.proofs.Common.{false, ◌≤◌, [], IfSome, drop}
use Rattle.plan_files.proofs.Common.{OnlyReads}
use Rattle.stage_chain.specs.Kept.{solve_over}
use Rattle.stage_chain.specs.Progress.{NamesNoHand}
use Rattle.stage_chain.proofs.Rests.{IsRest}
use Rattle.stage_chain.proofs.StageByStage.{still}
use Rattle.stage_chain.proofs.chain.run_stages.Given as goal

-- the stages so far and the rest make the chain, and no file has changed
abbrev pub invariant-loop-stage : goal.invariant-loop-stage
invariant-loop-stage g l = record {
  reads : OnlyReads g.F.Files.contents g.F.Files.writes g.F.Files.faults l.initial.files l.files false;
  none : NamesNoHand l.progress;
  least : l.initial.steps ≤ l.steps;
  rest : IfSome (g.F.Files.contents l.initial.files)
      (λ folder. IsRest g.S.Stages.parts folder
      (still g.S.Stages.parts g.met.S.Stages.laws (solve_over g.S.Stages.parts folder) l.config folder []
      l.stage-items)
      (still g.S.Stages.parts g.met.S.Stages.laws (solve_over g.S.Stages.parts folder) l.config folder
      l.progress.files (drop l.stage-index l.stage-items)) l.progress l.initial.steps l.steps);
}
