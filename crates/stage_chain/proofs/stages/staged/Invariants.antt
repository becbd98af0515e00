use Rattle.plan_num.proofs.Common.{◌≡◌, map, take}
use Rattle.stage_chain.proofs.stages.staged.Given as goal

-- the stages of the places so far
abbrev pub invariant-loop-place : goal.invariant-loop-place
invariant-loop-place g l = l.stages.items ≡ map (g.S.Stages.parts.placed l.config) (take l.place-index l.place-items)
