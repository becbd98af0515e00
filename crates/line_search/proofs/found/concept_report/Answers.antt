use Rattle.plan_num.proofs.Common.{◌≡◌, ◌∷◌, ◌++◌, [], List, ℕ, append-nil, append_assoc, codes}
use Rattle.plan_num.proofs.Common.{subst, IfOk}
use Rattle.giv_files.specs.declared.stage.Stage.TheVariants as stage
use Rattle.giv_files.proofs.Common.{report_line}
use Rattle.line_search.specs.ConceptStage.{concept_made}
use Rattle.line_search.specs.ConceptResults.{concept_of}
use Rattle.line_search.proofs.found.concept_report.Goals as goal

-- the line of the report by its parts
line_told : (cost mark count : List ℕ)
    → report_line stage.Concept
    ((codes "cost " ++ cost) ∷ mark ∷ (count ++ codes " " ++ codes "entries") ∷ [])
    ≡ codes "concept: cost " ++ cost ++ codes ", " ++ mark ++ codes ", " ++ count ++ codes " entries"
line_told cost mark count = simp (append_assoc, append-nil)

pub returns : goal.returns
returns c =
    let told : report_line stage.Concept
    (c.in_ok-cost_text.field-0 ∷ c.in_ok-copy.field-0 ∷ c.in_ok-count_text.field-0 ∷ [])
    ≡ (concept_made c.args.problem.now
    (concept_of c.args.best.now c.args.tree.now c.args.entries)).report =
    rw (
      c.in_ok-cost_text.ensures,
      c.in_ok-copy.ensures,
      c.mark_word.ensures,
      c.is_some.ensures,
      c.in_ok-count_text.ensures,
    ) (line_told _ _ _) in
    subst (λ line. IfOk c.report_line.result (λ text. text ≡ line)) told c.report_line.ensures
