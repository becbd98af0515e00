-- What proofs of the crates above cite of this one, passed on from one place. Declares nothing.
pub use Rattle.plan_files.specs.Applied.{AreApplied, AreCutShort, IsTorn, LeftBy}
pub use Rattle.plan_files.specs.Changes.{after_write, folder_after, left_by, write_name}
pub use Rattle.plan_files.specs.Counts.{Counts, Rose}
pub use Rattle.plan_files.specs.Folder.{Folder, found}
pub use Rattle.plan_files.specs.Others.{AreOutside}
pub use Rattle.plan_files.specs.Reads.{FoundBehind, LacksEnds, OnlyReads}
pub use Rattle.plan_files.proofs.OtherFiles.{applied_part, cut_part, get_part, outside_both}
pub use Rattle.plan_files.proofs.OtherFiles.{outside_front, part_after, same_folder}
pub use Rattle.plan_files.proofs.Reading.{both_read, nothing_read}
pub use Rattle.plan_files.proofs.Writes.{folder_after_both, get_written}
