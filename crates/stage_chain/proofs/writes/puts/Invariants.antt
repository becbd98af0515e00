use Rattle.plan_num.proofs.Common.{◌≡◌, ◌++◌, map}
use Rattle.stage_chain.specs.Runs.{put_of}
use Rattle.stage_chain.proofs.writes.puts.Given as goal

-- the puts so far and those of the files that are left make all of them
abbrev pub invariant-loop-file : goal.invariant-loop-file
invariant-loop-file l =
    l.writes.items ++ map put_of l.file-iterator.rest.items ≡ map put_of l.fn.made.items
