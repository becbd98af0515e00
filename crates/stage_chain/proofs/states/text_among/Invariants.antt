use Rattle.plan_num.proofs.Common.{◌≡◌, drop}
use Rattle.stage_chain.specs.States.{text_among}
use Rattle.stage_chain.proofs.states.text_among.Given as goal

-- the file is not among those so far
abbrev pub invariant-loop-index : goal.invariant-loop-index
invariant-loop-index l = text_among (drop l.index l.made) l.file ≡ text_among l.made l.file
