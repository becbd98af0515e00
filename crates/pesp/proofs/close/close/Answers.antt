use Rattle.plan_num.proofs.Common.{◌≡◌, false, subst}
use Rattle.pesp.specs.Listings.{is_empty}
use Rattle.pesp.specs.Marks.{Marks, times_from}
use Rattle.pesp.proofs.Closing.{closes_full}
use Rattle.pesp.proofs.close.close.Goals as goal

pub returns-clause-full : goal.returns-clause-full
returns-clause-full c none =
    closes_full c.args.sets.now c.keep_all_repeated.new.sets c.args.event c.args.minutes
    c.in_ok-is_changed.is_changed c.in_ok-is_changed.ensures.closes c.in_ok-is_changed.ensures.same
    (λ is. subst (λ (sets : Marks). is_empty (times_from sets c.args.event 0) ≡ false)
    c.sets.ensures (c.is_emptied.ensures.some none is))
