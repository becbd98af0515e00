-- Each level of includes is less than the one above it. The sections that are left lead to what the
-- file gives, and no file has changed.
use Rattle.plan_num.proofs.Common.{false, ◌+◌, ◌*◌, drop}
use Rattle.plan_files.proofs.Common.{OnlyReads}
use Rattle.config_keys.proofs.Expanding.{Leads}
use Rattle.config_keys.proofs.expand.+expand.Given as goal

abbrev pub decreases-read_include : goal.decreases-read_include
decreases-read_include g l = 2 * l.place.left

abbrev pub decreases-read_file : goal.decreases-read_file
decreases-read_file g l = 2 * l.place.left + 1

abbrev pub invariant-read_file-loop-section : goal.invariant-read_file-loop-section
invariant-read_file-loop-section g l =
    record {
      reads : OnlyReads g.F.Files.contents g.F.Files.writes g.F.Files.faults l.initial.files l.files false;
      read : Leads l.place.left l.place.name.now l.file l.initial.reading l.initial.kept
          (g.F.Files.contents l.initial.files) (drop l.section-index l.section-items) l.reading l.kept;
    }
