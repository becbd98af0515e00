use Rattle.plan_num.proofs.Common.{◌≡◌, drop, map}
use Rattle.tables.proofs.Common.{file_name}
use Rattle.stage_chain.specs.Hand.{is_among}
use Rattle.stage_chain.specs.Runs.{name_of}
use Rattle.stage_chain.proofs.writes.is_among.Given as goal

-- the name is not among those so far
abbrev pub invariant-loop-other : goal.invariant-loop-other
invariant-loop-other l =
    is_among (file_name l.file) (map name_of (drop l.other-index l.made))
    ≡ is_among (file_name l.file) (map name_of l.made)
