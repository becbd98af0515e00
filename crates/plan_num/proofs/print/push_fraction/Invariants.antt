-- What is written and the digits that are left make the whole fraction, and the next place holds
-- the rest.
use Rattle.plan_num.proofs.Common.{◌≡◌, ◌<◌, ◌++◌, drop, get_or}
use Rattle.plan_num.specs.Print.{places, digits_at}
use Rattle.plan_num.proofs.Places.{limits}
use Rattle.plan_num.proofs.print.push_fraction.Given as goal

abbrev pub invariant-loop-place : goal.invariant-loop-place
invariant-loop-place l =
    record {
      fits : l.rest < get_or limits l.place-index 0;
      told : l.bytes.items ++ digits_at (drop l.place-index places) l.rest
          ≡ l.initial.bytes.items ++ digits_at places l.millionths;
    }
