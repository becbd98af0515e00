-- All line feeds stand before the end.
use Rattle.plan_num.proofs.Common.{◌≤◌, length}
use Rattle.text_fields.proofs.handed.last_feed.Given as goal

abbrev pub invariant-bytes : goal.invariant-bytes
invariant-bytes l = l.end ≤ length l.text

abbrev pub decreases-bytes : goal.decreases-bytes
decreases-bytes l = l.end
