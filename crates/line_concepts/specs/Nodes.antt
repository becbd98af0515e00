-- What holds of the nodes of a tree, each by itself.
use Rattle.std.specs.Prelude.{◌≤◌, ◌<◌, length, All, ⊤}
use Rattle.line_cost_model.specs.Multipliers.{AreMultipliers}
use Rattle.line_cost_model.specs.Problems.{ProblemParts}
use Rattle.line_concepts.specs.declared.node.Node.{Node}
use Rattle.line_concepts.specs.declared.node.Node.TheVariants as node

-- a node names a line, an edge or edges that are there
abbrev pub NamesWhatIs : ProblemParts → Node → Type 0
NamesWhatIs problem (node.Split line at) = line < length problem.lines
NamesWhatIs problem (node.Empty edge side) = edge < length problem.edges
NamesWhatIs problem (node.Bound multipliers) =
    All (λ multiplier. multiplier.edge < length problem.edges) multipliers
NamesWhatIs problem node.Point = ⊤

-- a node is in its limits: its split is not too great, and its multipliers are as they always are
abbrev pub IsInLimits : Node → Type 0
IsInLimits (node.Split line at) = at ≤ 1000000000
IsInLimits (node.Bound multipliers) = AreMultipliers multipliers
IsInLimits _ = ⊤
