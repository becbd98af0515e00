use Rattle.plan_num.proofs.Common.{ap, ◌∙◌, sym, ◌∷◌, ◌++◌, [], List, ℕ, codes}
use Rattle.tables.specs.declared.file_id.FileId.TheVariants.{Stop}
use Rattle.stage_keep.proofs.Reading.{head_more}
use Rattle.stage_keep.proofs.heads.heads.Goals as goal

pub loop-input-preserved : goal.loop-input-preserved
loop-input-preserved c =
    c.in_ok-push-2.ensures.items
    ∙ ap (λ (head : List ℕ). c.loop-input.heads.items ++ head ∷ []) c.in_ok-copy-2.ensures
    ∙ ap (λ (front : List (List ℕ)). front ++ codes "input" ∷ []) c.loop-input.invariant
    ∙ ap (λ (more : List (List ℕ)). codes "settings" ∷ more)
    (sym (head_more c.inputs-input-items.result.now c.loop-input._input-index Stop c.loop-input-test.true))
