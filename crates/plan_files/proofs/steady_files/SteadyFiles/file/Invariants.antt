-- Of the writes so far, what the newest one of the name leaves.
use Rattle.plan_num.proofs.Common.{◌≡◌, take, option_copied}
use Rattle.std.specs.FinMap as map
use Rattle.plan_files.specs.Changes.{folder_of}
use Rattle.plan_files.proofs.steady_files.SteadyFiles.file.Given as goal

abbrev pub invariant-loop-write : goal.invariant-loop-write
invariant-loop-write l =
    option_copied l.left ≡ map.get (folder_of (take l.write-index l.write-items)) l.name
