-- What proofs of the crates above cite of this one, passed on from one place. Declares nothing.
pub use Rattle.link_plans.specs.LinkRows.{AreRows, IsLinkOf, IsRow, end_of, link_to, reached, worth}
pub use Rattle.link_plans.specs.LinkRows.{worthy}
pub use Rattle.link_plans.specs.Links.{AreLinks, Links, links_in}
pub use Rattle.link_plans.specs.Places.{place_of, successor_at}
pub use Rattle.link_plans.specs.Plans.{AreNoLater, AreSuccessors, ComesNoLater, IsBest, IsFirstBest}
pub use Rattle.link_plans.specs.Plans.{IsPlan, is_next, is_trip, next, plan_gain, plan_links}
pub use Rattle.link_plans.specs.Potentials.{AreOver, ArePotentials, AreValid, IsSmall, IsTight}
pub use Rattle.link_plans.specs.Potentials.{PotentialParts, at, total}
pub use Rattle.link_plans.specs.Slacks.{Covers, slack_of, slack_to}
pub use Rattle.link_plans.proofs.Certified.{by_bound, certified_best, gain_most, gains_all}
pub use Rattle.link_plans.proofs.Certified.{tight_all, tight_best, valid_for_best}
pub use Rattle.link_plans.proofs.ChosenThere.{HasValid, valid_there}
pub use Rattle.link_plans.proofs.Counting.{all_count, but_one, count, count_most, one_less}
pub use Rattle.link_plans.proofs.Covering.{none_past}
pub use Rattle.link_plans.proofs.LinkLists.{lists_are, lists_sound, worthy_links}
pub use Rattle.link_plans.proofs.LinkRows.{gap_first, gap_next, item, lists_more, reached_last}
pub use Rattle.link_plans.proofs.LinkRows.{reached_next, reached_within, row_more, worth_is}
pub use Rattle.link_plans.proofs.LinkSlacks.{gap_slack, link_covered, link_slack}
pub use Rattle.link_plans.proofs.Linking.{by_number, followed, is_trip_same, linked, never_next}
pub use Rattle.link_plans.proofs.Linking.{next_before, next_found, next_in, next_is, none_linked}
pub use Rattle.link_plans.proofs.Linking.{none_next, not_linked, not_next, same_is_trip, some_of}
pub use Rattle.link_plans.proofs.Moves.{has_next, moved_free, moved_from, moved_is, moved_next}
pub use Rattle.link_plans.proofs.Moves.{moved_other, no_successor, past_free, same_place}
pub use Rattle.link_plans.proofs.Moves.{some_successor, successor_past, successor_within}
pub use Rattle.link_plans.proofs.TightGains.{AreCovering, AreTight, then_tight, tight_gains}
pub use Rattle.link_plans.proofs.TightValid.{tight_valid}
pub use Rattle.link_plans.proofs.Totals.{alone_count, alone_minutes, gains_from, gains_more}
pub use Rattle.link_plans.proofs.Totals.{linked_count, linked_minutes, links_from, minutes_from}
pub use Rattle.link_plans.proofs.Totals.{minutes_more}
pub use Rattle.link_plans.proofs.Values.{values, values_at, values_past, values_size}
