-- The search is the same.
use Rattle.assignment.proofs.seek.expand.Given as goal

abbrev pub ghost-claim_all : goal.ghost-claim_all
ghost-claim_all g a = g.search

abbrev pub ghost-expand_last : goal.ghost-expand_last
ghost-expand_last g a = g.search
