use Rattle.plan_num.proofs.Common.{◌≡◌, drop}
use Rattle.stage_chain.specs.States.{is_one_of}
use Rattle.stage_chain.proofs.known.is_one_of.Given as goal

-- the file is not among those so far
abbrev pub invariant-loop-other : goal.invariant-loop-other
invariant-loop-other l = is_one_of (drop l.other-index l.others) l.file ≡ is_one_of l.others l.file
