-- The places so far, and those of the bits that are left.
use Rattle.std.proofs.Common.{◌≡◌, ◌++◌}
use Rattle.bit_rows.proofs.words.push_places.Given as goal
use Rattle.bit_rows.specs.Bits.{places_in}

abbrev pub invariant-loop-bit : goal.invariant-loop-bit
invariant-loop-bit l =
    l.found.items ++ places_in l.start l.left ≡ l.fn.found.items ++ places_in l.start l.word

abbrev pub decreases-loop-bit : goal.decreases-loop-bit
decreases-loop-bit l = l.left
