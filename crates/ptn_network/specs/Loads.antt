-- Loads of edges with their bounds of frequency, as a file has them.
use Rattle.std.specs.Prelude.{ℕ, ℤ, pos, ◌≤ℤ◌, not, is_some, int_lt, List, [], ◌∷◌, map, get_or, Option, option_map, unwrap_or}
use Rattle.std.specs.List.{list_any, find}
use Rattle.std.specs.Ordering.{int_eq}
use Rattle.tables.specs.declared.file_id.FileId.{FileId}
use Rattle.tables.specs.declared.row_why.RowWhy.TheVariants as why
use Rattle.tables.specs.Columns.{load_columns}
use Rattle.tables.specs.Inputs.{Input, RowRule, TableRule, records_of, own_id, whole_rule}
use Rattle.ptn_network.specs.Ids.{known_edge}
use Rattle.walks.specs.declared.edge.Edge.{Edge}
use Rattle.ptn_network.specs.declared.edge_load.EdgeLoad.{EdgeLoad}
use Rattle.ptn_network.specs.declared.load_row.LoadRow.{LoadRow}
use Rattle.plan_num.specs.declared.number.TheConstants.{NUMBER_LIMIT}

-- the load of a row: of the edge of an id, with its bounds of frequency
abbrev pub load_row_of : List ℤ → LoadRow
load_row_of cells = record {
  edge = get_or cells 0 (pos 0);
  load = record {
    load = get_or cells 1 (pos 0);
    least = get_or cells 2 (pos 0);
    most = get_or cells 3 (pos 0);
  };
}

-- the rule that the maximal frequency is not below the minimal one
abbrev pub bounds_in_order : RowRule LoadRow
bounds_in_order = record {
  is_broken = λ _ row. int_lt row.load.most row.load.least;
  why = why.BoundsCrossed;
}

-- the load of an edge, where a row gives it
abbrev pub given_for : List LoadRow → Edge → Option EdgeLoad
given_for rows edge = option_map (λ row. row.load) (find (λ row. int_eq edge.id row.edge) rows)

-- the rule that each edge has a row
abbrev pub all_given : List Edge → TableRule LoadRow
all_given edges =
    whole_rule (λ rows. list_any (λ edge. not (is_some (given_for rows edge))) edges)
    why.MissingEdge

-- the rules of a row, in their order
abbrev pub load_rules : List Edge → List (RowRule LoadRow)
load_rules edges =
    known_edge (λ row. row.edge) edges ∷ own_id (λ row. row.edge) ∷ bounds_in_order ∷ []

-- a file of loads over the edges of a network: the one that people write, or the one that is made
abbrev pub load_input : FileId → List Edge → Input LoadRow
load_input file edges = record {
  file = file;
  columns = load_columns;
  read = load_row_of;
  limits = [];
  row_rules = load_rules edges;
  table_rules = all_given edges ∷ [];
}

-- no load, and no bounds
abbrev pub no_load : EdgeLoad
no_load = record { load = pos 0; least = pos 0; most = pos 0 }

-- the loads of all edges by some rows, in the order of the edges
abbrev pub loads_over : List Edge → List LoadRow → List EdgeLoad
loads_over edges rows = map (λ edge. unwrap_or (given_for rows edge) no_load) edges

-- the loads of all edges by a text
unfoldable pub loads_of : FileId → List Edge → List ℕ → List EdgeLoad
loads_of file edges text = loads_over edges (records_of (load_input file edges) text)

-- a load that is not too great, with bounds of frequency in order
pub record IsBounded (load : EdgeLoad) : Type 0 where
  pub load_low : pos 0 ≤ℤ load.load
  pub load_high : load.load ≤ℤ pos NUMBER_LIMIT
  pub least_low : pos 0 ≤ℤ load.least
  pub in_order : load.least ≤ℤ load.most

-- a load as a file has it: its edge is to be driven at most so often
pub record IsLoad (load : EdgeLoad) : Type 0 where
  pub bounded : IsBounded load
  pub rare : load.most ≤ℤ pos 1000
