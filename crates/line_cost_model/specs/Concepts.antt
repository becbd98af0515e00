-- Line concepts: a frequency for each line. Which of them are feasible, and what they cost.
use Rattle.std.specs.Prelude.{◌≡◌, ℕ, ◌≤◌, ◌*◌, ◌==◌, ◌&&◌, nat_eq, nat_le, if◌then◌else◌, Bool}
use Rattle.std.specs.Prelude.{List, length, slice_get, Some, sum_by, zip}
use Rattle.std.specs.List.{list_any, list_all, enumerate_from}
use Rattle.line_cost_model.specs.declared.edge.BoundedEdge.{BoundedEdge}
use Rattle.line_cost_model.specs.Problems.{CostedLine, ProblemParts}

-- a line goes over the edge of an index
abbrev pub goes_over : ℕ → CostedLine → Bool
goes_over edge line = list_any (nat_eq edge) line.edges

-- how often an edge is driven: the sum of the frequencies of the lines that go over it
abbrev pub frequency_on : List CostedLine → List ℕ → ℕ → ℕ
frequency_on lines frequencies edge =
    sum_by (λ at. if goes_over edge at.0 then at.1 else 0) (zip lines frequencies)

-- what a concept costs, in millionths: each line as often as it is driven
abbrev pub cost_of : ProblemParts → List ℕ → ℕ
cost_of problem frequencies = sum_by (λ at. at.0.cost * at.1) (zip problem.lines frequencies)

-- frequencies keep the bounds of an edge
pub record KeepsBounds (lines : List CostedLine) (frequencies : List ℕ) (edge : ℕ)
    (bounds : BoundedEdge) : Type 0 where
  pub enough : bounds.least ≤ frequency_on lines frequencies edge
  pub few : frequency_on lines frequencies edge ≤ bounds.most

-- a concept is feasible: it has a frequency for each line, and keeps the bounds of each edge
pub record IsFeasible (problem : ProblemParts) (frequencies : List ℕ) : Type 0 where
  pub each : length frequencies ≡ length problem.lines
  pub bounds : (edge : ℕ) (at : BoundedEdge) → slice_get problem.edges edge ≡ Some at
      → KeepsBounds problem.lines frequencies edge at

-- the same as a test
abbrev pub keeps_bounds : List CostedLine → List ℕ → ℕ × BoundedEdge → Bool
keeps_bounds lines frequencies at =
    nat_le at.1.least (frequency_on lines frequencies at.0)
    && nat_le (frequency_on lines frequencies at.0) at.1.most

unfoldable pub is_feasible : ProblemParts → List ℕ → Bool
is_feasible problem frequencies =
    (length frequencies == length problem.lines)
    && list_all (keeps_bounds problem.lines frequencies) (enumerate_from 0 problem.edges)
