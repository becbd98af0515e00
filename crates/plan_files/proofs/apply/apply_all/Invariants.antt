use Rattle.plan_num.proofs.Common.{◌≡◌, take}
use Rattle.plan_files.specs.Applied.{AreApplied}
use Rattle.plan_files.proofs.apply.apply_all.Given as goal

-- the writes so far were made
abbrev pub invariant-loop-write : goal.invariant-loop-write
invariant-loop-write g l = record {
  applied : AreApplied (take l.write-index l.writes) (g.F.Files.contents l.initial.files)
      (g.F.Files.contents l.files) (g.F.Files.writes l.initial.files) (g.F.Files.writes l.files);
  faults : g.F.Files.faults l.files ≡ g.F.Files.faults l.initial.files;
}
