use Rattle.pesp.proofs.ListingRight.{listing_whole}
use Rattle.pesp_search.proofs.TimetableEnds.{none_told, right_listing, spent_never}
use Rattle.giv_files.proofs.Common.{right_given}
use Rattle.pesp_search.proofs.TimetableReads.{timetable_is_right}
use Rattle.pesp_search.specs.TimetableStage.{problem_in}
use Rattle.pesp_search.proofs.stage.make_timetable.Goals as goal

pub returns-clause-right : goal.returns-clause-right
returns-clause-right g c =
    right_given _ c.searched_timetable.result
    (λ made is. timetable_is_right c.args.bundle.now made c.requires.stage c.requires.fits is) c.searched_timetable.ensures.made

pub returns-clause-none : goal.returns-clause-none
returns-clause-none g c =
    none_told c.args.bundle.now c.requires.stage c.requires.fits c.searched_timetable.result
    c.searched_timetable.ensures.made

pub returns-clause-never_spent : goal.returns-clause-never_spent
returns-clause-never_spent g c =
    spent_never c.args.bundle.now c.requires.stage c.requires.fits c.searched_timetable.result
    c.searched_timetable.ensures.made

pub returns-clause-finds : goal.returns-clause-finds
returns-clause-finds g c = right_listing c.args.bundle.now c.requires.stage c.requires.fits

pub returns-clause-listed : goal.returns-clause-listed
returns-clause-listed g c = listing_whole (problem_in c.args.bundle.now)
