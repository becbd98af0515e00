-- What proofs of the crates above cite of this one, passed on from one place. Declares nothing.
pub use Rattle.walks.specs.Networks.{AreKeyed, IsEdge, IsNetwork, NetworkParts}
pub use Rattle.walks.specs.Paths.{ArePaths, IsShortest, IsSimple, PathParts, edges_at, last_edge}
pub use Rattle.walks.specs.Paths.{length_to, path, path_within, paths_from, stop_before, way}
pub use Rattle.walks.specs.RisingIds.{by_id, index_in, rising}
pub use Rattle.walks.specs.Walks.{AreLeastSums, IsLeastSum, IsWalk, across, edge_length, edge_time}
pub use Rattle.walks.specs.Walks.{end_from, least_of, least_sum, least_sums, walk_sum, walks_within}
pub use Rattle.walks.proofs.ById.{by_id_keyed, by_id_sorted, sorted_entries, sorted_ids}
pub use Rattle.walks.proofs.LastWalks.{across_back, splits, starts_within}
pub use Rattle.walks.proofs.PathEdges.{comes_from, ends_are, last_is_new, last_is_step, path_simple}
pub use Rattle.walks.proofs.PathEdges.{some_length}
pub use Rattle.walks.proofs.PathSteps.{before_there, last_known, last_step, last_there, no_edge}
pub use Rattle.walks.proofs.PathSteps.{none_before, none_there}
pub use Rattle.walks.proofs.RisingIds.{all_by_id, all_rising, length_by_id, rising_length}
pub use Rattle.walks.proofs.RisingIds.{rising_rises, sorted_rise}
pub use Rattle.walks.proofs.SameIds.{apart, rising_has, same_rising, tied, units}
pub use Rattle.walks.proofs.ShortestPaths.{path_shortest}
pub use Rattle.walks.proofs.Walks.{IsUpTo, begins, edge_first, least_of_all, least_of_there}
pub use Rattle.walks.proofs.Walks.{staying_end, walk_sum-cons, within_all, within_there}
