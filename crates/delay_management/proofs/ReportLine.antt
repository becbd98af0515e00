-- The line of a disposition in a report, piece by piece.
use Rattle.plan_num.proofs.Common.{arith, ◌≡◌, ◌∙◌, ℕ, List, [], ◌∷◌, ◌++◌, append_assoc, codes}
use Rattle.plan_num.proofs.Common.{decimal, Result, Ok, Err, IfOk, ap}
use Rattle.giv_files.specs.declared.stage.Stage.TheVariants as stage
use Rattle.giv_files.proofs.Common.{count_text, report_line}

pieces : (d c m s t u : List ℕ)
    → d ++ (c ++ (((m ++ s) ++ t) ++ u)) ≡ ((d ++ c) ++ m) ++ (s ++ (t ++ u))
pieces d c m s t u = grind (arith, append_assoc)

abbrev parts_of : List ℕ → ℕ → List (List ℕ)
parts_of delay missed =
    (codes "delay " ++ delay) ∷ count_text missed (codes "missed") ∷ codes "optimal" ∷ []

line_is : (delay : List ℕ) (missed : ℕ)
    → report_line stage.Disposition (parts_of delay missed)
    ≡ codes "disposition: delay " ++ delay ++ codes ", " ++ decimal missed ++ codes " missed, optimal"
line_is delay missed =
    ap (λ rest. codes "disposition: delay " ++ rest)
    (pieces delay (codes ", ") (decimal missed) (codes " ") (codes "missed") (codes ", optimal"))

pub line_told : {E : Type 0} (delay : List ℕ) (missed : ℕ) (parts : List (List ℕ))
    → parts ≡ parts_of delay missed → (result : Result (List ℕ) E)
    → IfOk result (λ line. line ≡ report_line stage.Disposition parts)
    → IfOk result (λ line. line
    ≡ codes "disposition: delay " ++ delay ++ codes ", " ++ decimal missed ++ codes " missed, optimal")
line_told delay missed parts are (Ok line) told =
    told ∙ ap (report_line stage.Disposition) are ∙ line_is delay missed
line_told delay missed parts are (Err error) told = tt
