-- The search is the same.
use Rattle.assignment.proofs.chosen.move_to.Given as goal

abbrev pub ghost-hand_on : goal.ghost-hand_on
ghost-hand_on g a = g.search
