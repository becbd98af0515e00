use Rattle.std.proofs.Common.{All}
use Rattle.line_concepts.specs.Nodes.{NamesWhatIs}
use Rattle.line_concepts_tests.proofs.nodes.tree_of.Given as goal

-- the nodes so far name what is there
abbrev pub invariant-loop-says : goal.invariant-loop-says
invariant-loop-says l = All (NamesWhatIs l.problem) l.tree
