-- What was handed out and what is left to hand out are what there was.
use Rattle.plan_num.proofs.Common.{◌≡◌, ◌≤◌, ◌-◌, ◌++◌, length, take}
use Rattle.text_fields.specs.Handed.{unread}
use Rattle.text_fields.proofs.handed.Handed.fill.Given as goal

abbrev pub invariant-lines : goal.invariant-lines
invariant-lines l =
    record {
      within : l.filled ≤ length l.buffer;
      given : unread l.fn.self ≡ take l.filled l.buffer ++ unread l.self;
    }

abbrev pub decreases-lines : goal.decreases-lines
decreases-lines l = length l.buffer - l.filled
