-- The search is the same.
use Rattle.assignment.proofs.chosen.decide.Given as goal

abbrev pub ghost-seek : goal.ghost-seek
ghost-seek g a = g.search

abbrev pub ghost-move_to : goal.ghost-move_to
ghost-move_to g a = g.search
