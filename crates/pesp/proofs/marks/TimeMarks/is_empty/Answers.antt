use Rattle.pesp.proofs.NextTimes.{empty_by_next}
use Rattle.pesp.proofs.marks.TimeMarks.is_empty.Goals as goal

pub returns : goal.returns
returns c =
    empty_by_next c.args.self.now c.args.event c.next_left.result c.is_none.result
    c.is_none.ensures c.next_left.ensures.next
