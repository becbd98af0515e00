-- What proofs of the crates above cite of this one, passed on from one place. Declares nothing.
pub use Rattle.propagation.specs.DayEvents.{forward_rank, no_event, stands_before}
pub use Rattle.propagation.specs.EarlyEvents.{is_early_by, is_just, is_right_by}
pub use Rattle.propagation.specs.Lateness.{arrives, delay_at, is_broken, is_missed, lateness}
pub use Rattle.propagation.specs.Lateness.{missed_at, more_delay}
pub use Rattle.propagation.specs.LeastTimes.{IsFeasible, IsLeast, asked, later, latest, least_times}
pub use Rattle.propagation.specs.LeastTimes.{pushed_often, time_at}
pub use Rattle.propagation.specs.Links.{GainsLittle, IsDay, IsLinked, counts, head_pushed, links_of}
pub use Rattle.propagation.specs.Links.{parts_of}
pub use Rattle.propagation.specs.Marks.{is_source, is_turn, names}
pub use Rattle.propagation.specs.Problems.{AreChanges, DelayProblem, GoesForward, IsForward, Joins}
pub use Rattle.propagation.specs.Problems.{earliest_at, event_at, minutes, planned_at, steps_with}
pub use Rattle.propagation.specs.Reasons.{AreRight, canonical_reason, canonical_reasons, is_right}
pub use Rattle.propagation.specs.Reasons.{is_tight, named_activity, reason_for}
pub use Rattle.propagation.specs.Waiting.{chosen_changes, is_kept, kept_changes, times_alone}
pub use Rattle.propagation.proofs.Canonical.{reasons_below}
pub use Rattle.propagation.proofs.ForwardPass.{is_pushed}
pub use Rattle.propagation.proofs.ForwardSteps.{changes_few}
pub use Rattle.propagation.proofs.Late.{late_in, late_more}
pub use Rattle.propagation.proofs.MarksTell.{filter_alike, or_assoc}
pub use Rattle.propagation.proofs.PassIsLeast.{all_chosen, all_join, back_all, change_steps}
pub use Rattle.propagation.proofs.PassIsLeast.{chosen_are_changes, front_all, links_all, links_hold}
pub use Rattle.propagation.proofs.PassIsLeast.{pass_is, placed_at, steps_all, steps_hold}
pub use Rattle.propagation.proofs.Places.{moved, told_alike}
pub use Rattle.propagation.proofs.RanksRise.{planned_rises, rank_rises}
pub use Rattle.propagation.proofs.ReasonsProve.{forward_with, reasons_prove_least}
pub use Rattle.propagation.proofs.Rounds.{disposition_is_one, kept_are_changes, least_is_one}
pub use Rattle.propagation.proofs.Rounds.{least_times_are_least, steps_fewer}
pub use Rattle.propagation.proofs.SmallTimes.{least_small}
pub use Rattle.propagation.proofs.SoonTimes.{all_slow, pass_small}
pub use Rattle.propagation.proofs.WrittenReasons.{written_reasons_are_right}
