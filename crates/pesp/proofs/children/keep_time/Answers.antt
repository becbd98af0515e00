use Rattle.pesp.proofs.FirstMarks.{keeps_time}
use Rattle.pesp.proofs.children.keep_time.Goals as goal

pub returns : goal.returns
returns c =
    keeps_time c.args.sets.now c.prune.new.sets c.args.event c.args.time c.requires.event
    c.requires.time
    c.requires.left c.one_time.result c.in_ok-prune.field-0 c.one_time.ensures.each
    c.in_ok-prune.ensures
