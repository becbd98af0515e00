-- Demand between stops, and the loads of edges by it.
use Rattle.std.specs.Prelude.{ℕ, ℤ, pos, nat_eq, Bool, ◌&&◌, not, is_some, int_lt, if◌then◌else◌, List, [], ◌∷◌, length, map, get_or, unsigned_abs}
use Rattle.std.specs.List.{list_any, range_with_len, sum_by}
use Rattle.tables.specs.declared.counted.Counted.TheVariants as counted
use Rattle.tables.specs.declared.file_id.FileId.TheVariants as file
use Rattle.tables.specs.declared.row_why.RowWhy.TheVariants as why
use Rattle.tables.specs.Columns.{od_columns}
use Rattle.tables.specs.Inputs.{Input, RowRule, row_limit}
use Rattle.ptn_network.specs.Ids.{known_stops}
use Rattle.walks.specs.Networks.{NetworkParts}
use Rattle.walks.specs.RisingIds.{index_in}
use Rattle.walks.specs.Walks.{edge_length, least_sum}
use Rattle.demand_load.specs.declared.demand_row.DemandRow.{DemandRow}
use Rattle.walks.specs.Paths.{path}

-- the demand of a row: two stops, and the customers in millionths
abbrev pub demand_row : List ℤ → DemandRow
demand_row cells = record {
  left = get_or cells 0 (pos 0);
  right = get_or cells 1 (pos 0);
  customers = get_or cells 2 (pos 0);
}

-- a walk joins the two stops of a row
abbrev pub is_joined : NetworkParts → DemandRow → Bool
is_joined network row =
    is_some (least_sum network edge_length (index_in network.stops row.left)
    (index_in network.stops row.right))

-- the rule that customers have a way to go
abbrev pub joined_stops : NetworkParts → RowRule DemandRow
joined_stops network = record {
  is_broken = λ _ row. int_lt (pos 0) row.customers && not (is_joined network row);
  why = why.NoPath;
}

-- the file of demand over a network
abbrev pub demand_input : NetworkParts → Input DemandRow
demand_input network = record {
  file = file.Od;
  columns = od_columns;
  read = demand_row;
  limits = row_limit counted.DemandRows 100000 ∷ [];
  row_rules =
      known_stops (λ row. row.left) (λ row. row.right) network.stops ∷ joined_stops network ∷ [];
  table_rules = [];
}

-- the path of a row
abbrev pub row_path : NetworkParts → DemandRow → List ℕ
row_path network row =
    path network (index_in network.stops row.left) (index_in network.stops row.right)

-- how many customers of a row go over the edge of an index
abbrev pub row_load : NetworkParts → ℕ → DemandRow → ℕ
row_load network index row =
    if list_any (nat_eq index) (row_path network row) then unsigned_abs row.customers else 0

-- how many customers of some rows go over it: its load
abbrev pub load_of : NetworkParts → List DemandRow → ℕ → ℕ
load_of network rows index = sum_by (row_load network index) rows

-- the loads of all edges, in their order
abbrev pub demand_loads : NetworkParts → List DemandRow → List ℕ
demand_loads network rows = map (load_of network rows) (range_with_len 0 (length network.edges))
