-- The line problem of a bundle, whose inputs are the texts of stops, of edges, of the pool, of loads
-- with bounds of frequency and of costs.
use Rattle.std.specs.Prelude.{ℤ, List, ◌++◌, map, zip, unsigned_abs}
use Rattle.tables.specs.declared.file_id.FileId.TheVariants as file
use Rattle.tables.specs.declared.refusal.Refusal.{Refusal}
use Rattle.tables.specs.Inputs.{input_faults}
use Rattle.giv_files.specs.Settings.{BundleParts}
use Rattle.giv_files.specs.StageCalls.{input_text}
use Rattle.walks.specs.declared.edge.Edge.{Edge}
use Rattle.ptn_network.specs.declared.edge_load.EdgeLoad.{EdgeLoad}
use Rattle.ptn_network.specs.Loads.{load_input, loads_of}
use Rattle.ptn_network.specs.Networks.{network_faults, network_in}
use Rattle.line_walks.specs.GivenCosts.{costs_of}
use Rattle.line_walks.specs.Pools.{LineParts, pool_of, pool_faults}
use Rattle.line_walks.specs.PoolCosts.{pool_cost_input}
use Rattle.line_cost_model.specs.declared.edge.BoundedEdge.{BoundedEdge}
use Rattle.line_cost_model.specs.Problems.{CostedLine, ProblemParts}

-- the lines of its pool
abbrev pub lines_in : BundleParts → List LineParts
lines_in bundle = pool_of (network_in bundle.inputs) (input_text bundle 2)

-- every fault of its inputs, in their order
unfoldable pub problem_faults : BundleParts → List Refusal
problem_faults bundle =
    network_faults (input_text bundle 0) (input_text bundle 1)
    ++ pool_faults (network_in bundle.inputs) (input_text bundle 2)
    ++ input_faults (load_input file.Load (network_in bundle.inputs).edges) (input_text bundle 3)
    ++ input_faults (pool_cost_input (lines_in bundle)) (input_text bundle 4)

-- an edge with the bounds of its load
abbrev pub bounded_by : Edge → EdgeLoad → BoundedEdge
bounded_by edge load =
    record { id = edge.id; least = unsigned_abs load.least; most = unsigned_abs load.most }

-- a line with its cost
abbrev pub costed_by : LineParts → ℤ → CostedLine
costed_by line cost = record { id = line.id; cost = unsigned_abs cost; edges = line.edges }

-- the line problem of edges with their loads, and of lines with their costs
abbrev pub problem_over : List Edge → List EdgeLoad → List LineParts → List ℤ → ProblemParts
problem_over edges loads lines costs = record {
  edges = map (λ at. bounded_by at.0 at.1) (zip edges loads);
  lines = map (λ at. costed_by at.0 at.1) (zip lines costs);
}

-- the line problem of a bundle
unfoldable pub problem_of : BundleParts → ProblemParts
problem_of bundle =
    problem_over
    (network_in bundle.inputs).edges
    (loads_of file.Load (network_in bundle.inputs).edges (input_text bundle 3))
    (lines_in bundle)
    (costs_of (lines_in bundle) (input_text bundle 4))
