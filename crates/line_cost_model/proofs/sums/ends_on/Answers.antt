use Rattle.std.proofs.Common.{◌≡◌, ◌∙◌, ◌+◌, ◌*◌, ◌≤◌, ◌<◌, ℕ, List, All, get_or, length, arith, refl}
use Rattle.line_cost_model.specs.declared.range.LineRange.{LineRange}
use Rattle.line_cost_model.specs.Problems.{IsProblem, ProblemParts}
use Rattle.line_cost_model.specs.Crossings.{lines_over}
use Rattle.line_cost_model.specs.Regions.{IsRange, range_of}
use Rattle.line_cost_model.proofs.Driven.{end_sum, few_over}
use Rattle.line_cost_model.proofs.FewLines.{few_lines}
use Rattle.line_cost_model.proofs.sums.ends_on.Goals as goal

module _ (problem : ProblemParts) (ranges : List LineRange) (over : List ℕ) (edge index : ℕ)
    (is_problem : IsProblem problem) (each : length ranges ≡ length problem.lines) (sound : All IsRange ranges)
    (are : over ≡ lines_over problem.lines edge) (there : All (λ line. line < length problem.lines) over)
    (within : index < length over) where
  -- the range of a line over the edge
  range : IsRange (range_of ranges (get_or over index 0))
  range = grind (arith, get_or)

  -- one line more leaves a sum small
  fits : (sum end : ℕ) → sum ≤ index * 4294967296 → end ≤ 1000 → sum + end < 18446744073709551616
  fits sum end little one = grind (arith, few_over, few_lines)

pub overflow_add-least : goal.overflow_add-least
overflow_add-least c = grind (arith, range, fits)

pub overflow_add-greatest : goal.overflow_add-greatest
overflow_add-greatest c = grind (arith, range, fits)

pub returns : goal.returns
returns c =
    let lines = c.args.problem.now.lines in
    let over = c.lines_over-line-items in
    let ranges = c.args.ranges.now in
    let sums = c.loop-line.invariant in
    let least = end_sum (λ range. range.lo) ranges ranges refl lines c.args.edge c.loop-line.line-index
    over.result.now over.ensures.lines c.loop-line-test.false c.requires.each in
    let greatest = end_sum (λ range. range.hi) ranges ranges refl lines c.args.edge c.loop-line.line-index
    over.result.now over.ensures.lines c.loop-line-test.false c.requires.each in
    λ i. ((sums.least_is ∙ least) i, (sums.greatest_is ∙ greatest) i)
