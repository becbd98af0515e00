use Rattle.bit_rows.proofs.words.push_places.Goals as goal
use Rattle.bit_rows.proofs.Columns.{one_fewer, place_pushed}

pub loop-bit-smaller : goal.loop-bit-smaller
loop-bit-smaller c =
    one_fewer c.loop-bit.left c.in-Some.bit c.with_bit-left.result c.in-Some.ensures
    c.with_bit-left.ensures

pub loop-bit-preserved : goal.loop-bit-preserved
loop-bit-preserved c =
    place_pushed c.loop-bit.found.items c.push.new.self.items _ c.args.start c.loop-bit.left
    c.in-Some.bit c.with_bit-left.result c.in-Some.ensures c.with_bit-left.ensures
    c.in_ok-push.ensures.items c.loop-bit.invariant
