-- The same search.
use Rattle.plan_search.proofs.tree.hand_to.Given as goal

abbrev pub ghost-hand_on : goal.ghost-hand_on
ghost-hand_on g a = g.search
