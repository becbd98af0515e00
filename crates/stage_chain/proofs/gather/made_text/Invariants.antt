use Rattle.plan_num.proofs.Common.{◌≡◌, drop}
use Rattle.stage_chain.specs.Chain.{made_text}
use Rattle.stage_chain.proofs.gather.made_text.Given as goal

-- the file is not among those so far
abbrev pub invariant-loop-other : goal.invariant-loop-other
invariant-loop-other l = made_text (drop l.other-index l.made) l.file ≡ made_text l.made l.file
