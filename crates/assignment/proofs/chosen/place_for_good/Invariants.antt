-- The search is the same.
use Rattle.assignment.proofs.chosen.place_for_good.Given as goal

abbrev pub ghost-decide : goal.ghost-decide
ghost-decide g a = g.search
