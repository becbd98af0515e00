use Rattle.plan_num.proofs.Common.{◌≡◌, false, IfSome, drop}
use Rattle.plan_files.proofs.Common.{OnlyReads}
use Rattle.stage_chain.proofs.MadeThere.{all_there, joined}
use Rattle.stage_chain.proofs.standing.standing.Given as goal

-- the files so far and those that are left make all of them, and no file has changed
abbrev pub invariant-loop-file : goal.invariant-loop-file
invariant-loop-file g l = record {
  reads : OnlyReads g.F.Files.contents g.F.Files.writes g.F.Files.faults l.initial.files l.files false;
  there : IfSome (g.F.Files.contents l.initial.files)
      (λ folder. joined l.there.items (all_there folder (drop l.file-index l.file-items))
      ≡ all_there folder l.file-items);
}
