use Rattle.plan_num.proofs.Common.{◌≡◌, false, IfSome, drop, length, option_copied}
use Rattle.plan_files.proofs.Common.{OnlyReads}
use Rattle.stage_chain.specs.Looks.{look_over}
use Rattle.stage_chain.proofs.Gathering.{so_far_in}
use Rattle.stage_chain.proofs.gather.given.Given as goal

-- the texts so far and those that are left make all of them, and no file has changed
abbrev pub invariant-loop-file : goal.invariant-loop-file
invariant-loop-file g l = record {
  reads : OnlyReads g.F.Files.contents g.F.Files.writes g.F.Files.faults l.initial.files l.files false;
  stage : l.given.stage ≡ l.initial.given.stage;
  settings : l.given.settings ≡ l.initial.given.settings;
  count : length l.given.inputs ≡ l.file-index;
  texts : IfSome (g.F.Files.contents l.initial.files)
      (so_far_in (look_over (option_copied l.made)) l.config l.file-items (drop l.file-index l.file-items)
      l.given.inputs);
}
