-- Inner words: the pass over the edges that finds multipliers. A reader of the contracts of this
-- crate needs none of them.
use Rattle.std.specs.Prelude.{◌≡◌, ℕ, ◌+◌, ◌-◌, ◌*◌, ◌≤◌, ◌<◌, true, nat_eq, if◌then◌else◌, List}
use Rattle.std.specs.Prelude.{length, map, fold, drop, get_or, Option, Some, None}
use Rattle.std.specs.List.{enumerate_from, list_any}
use Rattle.line_cost_model.specs.declared.multipliers.Multiplier.{Multiplier}
use Rattle.line_cost_model.specs.declared.range.LineRange.{LineRange}
use Rattle.line_cost_model.specs.Problems.{CostedLine, ProblemParts}
use Rattle.line_cost_model.specs.Crossings.{lines_over}
use Rattle.line_cost_model.specs.DualBounds.{are_within, bound_by, left_of, multipliers_of, shortfall_at, with_next}
use Rattle.line_cost_model.specs.Multipliers.{IsAfter}
use Rattle.line_cost_model.specs.Regions.{has_several}

-- an amount was taken off what is left of the costs of the lines over an edge
abbrev pub AreLowered : List CostedLine → ℕ → ℕ → List ℕ → List ℕ → Type 0
AreLowered lines edge amount before after =
    (line : ℕ) → line < length before → get_or after line 0
    ≡ get_or before line 0 - (if list_any (nat_eq line) (lines_over lines edge) then amount else 0)

-- what is left of the cost of a line that is open
abbrev pub if_open : LineRange → ℕ → Option ℕ
if_open range left = if has_several range then Some left else None

-- the first edge from one on on which the least frequencies of a region leave drives missing
abbrev pub IsNextShort : ProblemParts → List LineRange → ℕ → Option ℕ → Type 0
IsNextShort problem region from None =
    (edge : ℕ) → from ≤ edge → shortfall_at problem region edge ≡ 0
IsNextShort problem region from (Some next) = (from ≤ next) × (next < length problem.edges)
    × ((edge : ℕ) → from ≤ edge → edge < next → shortfall_at problem region edge ≡ 0)

-- what is known before an edge: the multipliers of the edges before it, what they leave of the
-- costs of lines, and what they prove
pub record IsPass (problem : ProblemParts) (region : List LineRange) (multipliers : List Multiplier) (left : List ℕ)
    (value edge : ℕ) : Type 0 where
  pub left_is : left ≡ map (left_of multipliers) problem.lines
  pub value_is : value ≡ bound_by problem region multipliers
  pub few : value ≤ 5000000000000000000000000000000000000 + edge * 4294967296000000000000000000
  pub within : are_within problem region multipliers ≡ true
  pub after : IsAfter multipliers edge
  pub rest : multipliers_of problem region ≡ fold (with_next problem region) multipliers
      (enumerate_from edge (drop edge problem.edges))
