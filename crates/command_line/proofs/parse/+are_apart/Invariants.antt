use Rattle.plan_num.proofs.Common.{length}
use Rattle.command_line.proofs.parse.+are_apart.Given as goal

-- proposed from what the function passes where it calls itself
abbrev pub decreases-are_apart : goal.decreases-are_apart
decreases-are_apart l = length l.ids.now
