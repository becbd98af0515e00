-- The edges of rows, one row after the other.
use Rattle.plan_num.proofs.Common.{arith, ◌≡◌, ℤ, Bool, true, false, cond, List, [], ◌∷◌, ◌++◌, map}
use Rattle.plan_num.proofs.Common.{refl, ap, ◌∙◌, Option, Some, None, is_some, list_any, lookup}
use Rattle.plan_num.proofs.Common.{int_eq, map_push}
use Rattle.tables.specs.declared.row_why.RowWhy.{RowWhy}
use Rattle.tables.proofs.Common.{broken_whys}
use Rattle.tables.specs.declared.row_why.RowWhy.TheVariants as why
use Rattle.walks.specs.declared.edge.Edge.{Edge}
use Rattle.walks.proofs.Common.{AreKeyed}
use Rattle.ptn_network.specs.declared.edge_row.EdgeRow.{EdgeRow}
use Rattle.ptn_network.specs.Inputs.{edge_rules}
use Rattle.ptn_network.specs.Networks.{edge_entry, edge_of}

-- the entries of edges have the ids of the rows
entry_there : (stops : List ℤ) (rows : List EdgeRow) (id : ℤ)
    → is_some (lookup (int_eq id) (map (edge_entry stops) rows))
    ≡ list_any (λ other. int_eq id other.id) rows
entry_there stops [] id = refl
entry_there stops (row ∷ rows) id = grind (arith, is_some, entry_there stops rows id)

nothing : {A : Type 0} (o : Option A) → is_some o ≡ false → o ≡ None
nothing None e = refl
nothing (Some x) e = cc

-- a choice that gave no reason
pub no_reason : (b : Bool) (reason : RowWhy) (more : List RowWhy)
    → cond b (reason ∷ []) [] ++ more ≡ [] → b ≡ false
no_reason true reason more e = cc
no_reason false reason more e = refl

-- the entries of the rows have an id exactly where a row has it
pub id_there : (stops : List ℤ) (rows : List EdgeRow) (entries : List (ℤ × Edge)) (id : ℤ)
    → entries ≡ map (edge_entry stops) rows
    → is_some (lookup (int_eq id) entries) ≡ list_any (λ other. int_eq id other.id) rows
id_there stops rows entries id are =
    ap (λ es. is_some (lookup (int_eq id) es)) are ∙ entry_there stops rows id

-- a row that breaks no rule has an id of its own
pub own_entry : (stops : List ℤ) (rows : List EdgeRow) (row : EdgeRow) (entries : List (ℤ × Edge))
    → entries ≡ map (edge_entry stops) rows → broken_whys (edge_rules stops) rows row ≡ []
    → lookup (int_eq row.id) entries ≡ None
own_entry stops rows row entries are sound =
    nothing _ (id_there stops rows entries row.id are ∙ no_reason _ why.RepeatedId _ sound)

-- one edge more
pub edges_more : (stops : List ℤ) (before : List EdgeRow) (row is : EdgeRow) (edge : Edge)
    (entries after : List (ℤ × Edge)) → row ≡ is → edge ≡ edge_of stops row
    → entries ≡ map (edge_entry stops) before → after ≡ entries ++ (row.id, edge) ∷ []
    → after ≡ map (edge_entry stops) (before ++ is ∷ [])
edges_more stops before row is edge entries after read made so_far put = grind (arith, map_push)

-- the entries of rows have the ids of their edges
pub entries_keyed : (stops : List ℤ) (rows : List EdgeRow) → AreKeyed (map (edge_entry stops) rows)
entries_keyed stops [] = refl
entries_keyed stops (row ∷ rows) = ap (λ ids. row.id ∷ ids) (entries_keyed stops rows)
