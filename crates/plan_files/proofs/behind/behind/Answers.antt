use Rattle.plan_num.proofs.Common.{Decides-eqb}
use Rattle.std.proofs.lemmas.Slice.Eq.{strip_prefix_is}
use Rattle.plan_files.proofs.Fronts.{if_none, if_some}
use Rattle.plan_files.proofs.behind.behind.Goals as goal

pub returns-clause-some : goal.returns-clause-some
returns-clause-some c =
    if_some c.strip_prefix.result _ _
    (strip_prefix_is Decides-eqb c.args.bytes.now c.args.piece.now c.strip_prefix.result
    c.strip_prefix.ensures.cases)

pub returns-clause-none : goal.returns-clause-none
returns-clause-none c =
    if_none c.strip_prefix.result _ _
    (strip_prefix_is Decides-eqb c.args.bytes.now c.args.piece.now c.strip_prefix.result
    c.strip_prefix.ensures.cases)
