use Rattle.plan_num.proofs.Common.{arith}
use Rattle.giv_files.proofs.Common.{right_given}
use Rattle.line_search.proofs.PinnedReads.{pinned_right}
use Rattle.line_search.proofs.pinned.take_concept.Goals as goal

pub returns-clause-right : goal.returns-clause-right
returns-clause-right g c = grind (arith, right_given, pinned_right)
