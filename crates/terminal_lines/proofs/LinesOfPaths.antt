-- The lines among some paths.
use Rattle.plan_num.proofs.Common.{◌≡◌, ℕ, List, ◌++◌, arith, map-append, filter-append}
use Rattle.terminal_lines.specs.TerminalPaths.{lines_among}

-- those of paths one behind another are those of each of them
pub lines_both : (paths : List (List ℕ)) (some more : List (ℕ × List ℕ))
    → lines_among paths (some ++ more) ≡ lines_among paths some ++ lines_among paths more
lines_both paths some more = grind (arith, filter-append, map-append)
