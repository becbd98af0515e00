-- The parts of a report's line, one after the other.
use Rattle.plan_num.proofs.Common.{arith, ◌≡◌, ℕ, ◌+◌, ◌<◌, ◌≤◌, List, ◌++◌, length, drop, get_or}
use Rattle.plan_num.proofs.Common.{codes, ap, sym, ◌∙◌, drop_more, drop_all, append_assoc}
use Rattle.plan_num.proofs.Common.{append-nil}
use Rattle.giv_files.specs.ReportLines.{marked}

-- one part more
pub part_more : (line mark part : List ℕ) (parts : List (List ℕ)) (i : ℕ) (all : List ℕ)
    → i < length parts → part ≡ get_or parts i part → line ++ marked mark (drop i parts) ≡ all
    → line ++ mark ++ part ++ marked (codes ", ") (drop (i + 1) parts) ≡ all
part_more line mark part parts i all h is told = grind (arith, append_assoc, drop_more)

-- none is left
pub no_part : (line mark : List ℕ) (parts : List (List ℕ)) (i : ℕ) (all : List ℕ) → length parts ≤ i
    → line ++ marked mark (drop i parts) ≡ all → line ≡ all
no_part line mark parts i all h told = sym (append-nil line)
    ∙ ap (λ some. line ++ marked mark some) (sym (drop_all i parts h)) ∙ told
