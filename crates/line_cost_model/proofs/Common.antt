-- What proofs of the crates above cite of this one, passed on from one place. Declares nothing.
pub use Rattle.line_cost_model.specs.Chosen.{ComesBefore, IsChosen, stands_before}
pub use Rattle.line_cost_model.specs.Concepts.{IsFeasible, cost_of, frequency_on, is_feasible}
pub use Rattle.line_cost_model.specs.DualBounds.{are_within, bound_by, dual_bound, least_left}
pub use Rattle.line_cost_model.specs.DualBounds.{multipliers_of, next_multiplier, open_lines}
pub use Rattle.line_cost_model.specs.DualBounds.{shortfall, taken_off, unless_zero, with_next}
pub use Rattle.line_cost_model.specs.Multipliers.{AreMultipliers, IsAfter, IsAmount}
pub use Rattle.line_cost_model.specs.Problems.{CostedLine, IsBoundedEdge, IsCostedLine, IsId}
pub use Rattle.line_cost_model.specs.Problems.{IsProblem, ProblemParts}
pub use Rattle.line_cost_model.specs.Regions.{HasEachFeasible, IsEmptyAt, IsRange, IsWithin, LiesIn}
pub use Rattle.line_cost_model.specs.Regions.{RegionParts, empty_edge, empty_edges, empty_side}
pub use Rattle.line_cost_model.specs.Regions.{greatest_in, has_several, least_in, most_of}
pub use Rattle.line_cost_model.specs.Regions.{part_from, part_up_to, range_of, root_of}
pub use Rattle.line_cost_model.proofs.Duality.{bound_is_least, empty_is_none, one_concept}
pub use Rattle.line_cost_model.proofs.Duality.{split_covers}
pub use Rattle.line_cost_model.proofs.Feasible.{test_means}
pub use Rattle.line_cost_model.proofs.FewLines.{few_edges, few_lines}
pub use Rattle.line_cost_model.proofs.Mapped.{map_more, map_whole}
pub use Rattle.line_cost_model.proofs.Proving.{holds_at}
pub use Rattle.line_cost_model.proofs.Pushed.{multipliers_push}
pub use Rattle.line_cost_model.proofs.Roots.{one_by_one, root_has_each, root_sound}
pub use Rattle.line_cost_model.proofs.Within.{few_left, within_more, within_none}
