use Rattle.giv_files.proofs.Common.{right_given}
use Rattle.pesp_search.proofs.PinnedLaws.{pinned_timetable_right}
use Rattle.pesp_search.proofs.pinned.take_timetable.Goals as goal

pub returns-clause-right : goal.returns-clause-right
returns-clause-right g c =
    right_given _ c.taken_timetable.result
    (λ made is. pinned_timetable_right c.args.bundle.now made c.requires.stage c.requires.fits is) c.taken_timetable.ensures
