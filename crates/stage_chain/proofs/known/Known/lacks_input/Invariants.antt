use Rattle.plan_num.proofs.Common.{◌≡◌, drop, list_any}
use Rattle.stage_chain.specs.Chain.{chosen}
use Rattle.stage_chain.specs.States.{is_one_of}
use Rattle.stage_chain.proofs.known.Known.lacks_input.Given as goal

-- none of the inputs so far is lost
abbrev pub invariant-loop-file : goal.invariant-loop-file
invariant-loop-file l =
    list_any (λ file. is_one_of l.self.lost (chosen l.config file)) (drop l.file-index l.file-items)
    ≡ list_any (λ file. is_one_of l.self.lost (chosen l.config file)) l.file-items
