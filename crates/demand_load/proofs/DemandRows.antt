-- Rows of demand: their rules, and the paths of their customers.
use Rattle.plan_num.proofs.Common.{◌≡◌, ℕ, ℤ, pos, int_lt, true, false, not, cond, List, []}
use Rattle.plan_num.proofs.Common.{slice_get, refl, ap, ◌∙◌, arith, unsigned_abs, Some, None}
use Rattle.plan_num.proofs.Common.{unwrap_or, is_some, position, int_eq}
use Rattle.tables.specs.declared.row_why.RowWhy.TheVariants as why
use Rattle.tables.proofs.Common.{broken_whys}
use Rattle.plan_num.proofs.Found.{any_is}
use Rattle.ptn_network.specs.Ids.{is_unknown}
use Rattle.walks.proofs.Common.{NetworkParts, index_in, edge_length, least_sum}
use Rattle.demand_load.specs.declared.demand_row.DemandRow.{DemandRow}
use Rattle.demand_load.specs.Demand.{demand_input, is_joined, row_load}
use Rattle.demand_paths.specs.Wanted.{goes_over}

-- ---- the stops of a row

-- a stop without an index is unknown
pub unknown : (stops : List ℤ) (id : ℤ) → position (int_eq id) stops ≡ None
    → is_unknown stops id ≡ true
unknown stops id none = ap not (any_is (int_eq id) stops ∙ ap is_some none)

-- and one with an index is known
pub known : (stops : List ℤ) (id : ℤ) (index : ℕ) → position (int_eq id) stops ≡ Some index
    → is_unknown stops id ≡ false
known stops id index at = ap not (any_is (int_eq id) stops ∙ ap is_some at)

-- ---- the rules of a row

module _ (network : NetworkParts) (row : DemandRow) where
  pub no_left : is_unknown network.stops row.left ≡ true
      → slice_get (broken_whys (demand_input network).row_rules [] row) 0 ≡ Some why.UnknownStop
  no_left e = rw e refl

  pub no_right : is_unknown network.stops row.left ≡ false
      → is_unknown network.stops row.right ≡ true
      → slice_get (broken_whys (demand_input network).row_rules [] row) 0 ≡ Some why.UnknownStop
  no_right left e = rw (left, e) refl

  module _ (left right : ℕ) (from : position (int_eq row.left) network.stops ≡ Some left)
      (to : position (int_eq row.right) network.stops ≡ Some right) where
    -- the path of the row joins the stops of the two indexes
    at_left : index_in network.stops row.left ≡ left
    at_left = ap (λ o. unwrap_or o 0) from

    at_right : index_in network.stops row.right ≡ right
    at_right = ap (λ o. unwrap_or o 0) to

    same_joined : is_joined network row ≡ is_some (least_sum network edge_length left right)
    same_joined = grind arith

    pub no_path : int_lt (pos 0) row.customers ≡ true
        → is_some (least_sum network edge_length left right) ≡ false
        → slice_get (broken_whys (demand_input network).row_rules [] row) 0 ≡ Some why.NoPath
    no_path some none = grind (arith, known, same_joined)

    pub nobody_fits : int_lt (pos 0) row.customers ≡ false
        → broken_whys (demand_input network).row_rules [] row ≡ []
    nobody_fits none = grind (arith, known)

    pub row_fits : is_some (least_sum network edge_length left right) ≡ true
        → broken_whys (demand_input network).row_rules [] row ≡ []
    row_fits there = grind (arith, known, same_joined, int_lt)

    -- the customers go over the edges of the path between the two stops
    pub same_load : (index : ℕ) → cond (goes_over network index left right)
        (unsigned_abs row.customers) 0 ≡ row_load network index row
    same_load index = grind arith
