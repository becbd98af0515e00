-- The heads so far.
use Rattle.plan_num.proofs.Common.{◌≡◌, ◌∷◌, ◌++◌, codes, map, take}
use Rattle.giv_files.proofs.Common.{stage_inputs}
use Rattle.stage_keep.specs.Entries.{made_head}
use Rattle.stage_keep.proofs.heads.heads.Given as goal

abbrev pub invariant-loop-input : goal.invariant-loop-input
invariant-loop-input l =
    l.heads.items ≡ codes "settings" ∷ map (λ _. codes "input") (take l._input-index l._input-items)

abbrev pub invariant-loop-file : goal.invariant-loop-file
invariant-loop-file l =
    l.heads.items ≡ codes "settings" ∷ map (λ _. codes "input") (stage_inputs l.fn.stage)
    ++ map made_head (take l.file-index l.files)
