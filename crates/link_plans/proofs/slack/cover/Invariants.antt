-- The potential covers the links so far.
use Rattle.link_plans.proofs.Covering.{CoversLinks}
use Rattle.link_plans.proofs.slack.cover.Given as goal

abbrev pub invariant-loop-link : goal.invariant-loop-link
invariant-loop-link l = CoversLinks l.links l.potentials l.most l.link-index
