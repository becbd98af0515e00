-- The rows of the table of loads, and that their cells are in their columns.
use Rattle.plan_num.proofs.Common.{◌≡◌, ℕ, pos, ◌+◌, ◌<◌, ◌≤◌, ◌≤ℤ◌, int_lt, Bool, true, false}
use Rattle.plan_num.proofs.Common.{cond, List, [], ◌∷◌, ◌++◌, length, take, get_or, refl, ap, sym}
use Rattle.plan_num.proofs.Common.{◌∙◌, arith, All, unsigned_abs, take_more, take_all}
use Rattle.plan_num.proofs.Common.{length-take-le, All-nil, All-cons, All-head, All-tail}
use Rattle.tables.specs.declared.counted.Counted.TheVariants as counted
use Rattle.tables.specs.declared.refusal.Refusal.{Refusal}
use Rattle.tables.proofs.Common.{load_columns, TableRow, InColumns, back_none}
use Rattle.tables.specs.declared.refusal.Refusal.TheVariants as refusal
use Rattle.walks.specs.declared.edge.Edge.{Edge}
use Rattle.ptn_network.specs.declared.edge_load.EdgeLoad.{EdgeLoad}
use Rattle.ptn_network.specs.Loads.{IsBounded}
use Rattle.demand_load.specs.LoadTables.{load_row, load_rows, HasId}
use Rattle.demand_load.specs.LoadStage.{frequency_faults}

-- ---- row by row

rows_push : (edges : List Edge) (loads : List EdgeLoad) (edge : Edge) (load : EdgeLoad)
    → length edges ≡ length loads
    → load_rows (edges ++ edge ∷ []) (loads ++ load ∷ []) ≡ load_rows edges loads
    ++ load_row edge load ∷ []
rows_push [] [] edge load same = refl
rows_push [] (other ∷ loads) edge load same = absurd (omega arith)
rows_push (first ∷ edges) [] edge load same = absurd (omega arith)
rows_push (first ∷ edges) (other ∷ loads) edge load same =
    ap (λ rows. load_row first other ∷ rows) (rows_push edges loads edge load (omega arith))

-- the rows of one edge more
pub rows_more : (edges : List Edge) (loads : List EdgeLoad) (i : ℕ) (edge : Edge) (load : EdgeLoad)
    → i < length edges → i < length loads → get_or edges i edge ≡ edge → get_or loads i load ≡ load
    → load_rows (take (i + 1) edges) (take (i + 1) loads) ≡ load_rows (take i edges) (take i loads)
    ++ load_row edge load ∷ []
rows_more edges loads i edge load h k first second =
    let some = take i edges in
    let others = take i loads in
    ap (λ front. load_rows front (take (i + 1) loads)) (take_more edges i edge h ∙ ap
    (λ e. some ++ e ∷ []) first)
    ∙ ap (load_rows (some ++ edge ∷ [])) (take_more loads i load k ∙ ap
    (λ l. others ++ l ∷ []) second)
    ∙ rows_push some others edge load (length-take-le i edges (omega arith) ∙ sym
    (length-take-le i loads (omega arith)))

pub rows_all : (edges : List Edge) (loads : List EdgeLoad) (i : ℕ) → length edges ≤ i
    → length loads ≤ i → load_rows (take i edges) (take i loads) ≡ load_rows edges loads
rows_all edges loads i h k = ap (λ front. load_rows front (take i loads)) (take_all i edges h)
    ∙ ap (load_rows edges) (take_all i loads k)

-- ---- columns

row_in_columns : (edge : Edge) (load : EdgeLoad) → HasId edge → IsBounded load
    → load.most ≤ℤ pos 1000 → InColumns load_columns (load_row edge load).cells
row_in_columns edge load id bounded rare = grind arith

-- the cells of all rows are in their columns
pub rows_in_columns : (edges : List Edge) (loads : List EdgeLoad) → All HasId edges
    → All IsBounded loads → All (λ load. load.most ≤ℤ pos 1000) loads
    → All (λ row. InColumns load_columns row.cells) (load_rows edges loads)
rows_in_columns [] loads ids bounded rare =
    All-nil (λ (row : TableRow). InColumns load_columns row.cells)
rows_in_columns (edge ∷ edges) [] ids bounded rare =
    All-nil (λ (row : TableRow). InColumns load_columns row.cells)
rows_in_columns (edge ∷ edges) (load ∷ loads) ids bounded rare =
    All-cons (λ (row : TableRow). InColumns load_columns row.cells) (load_row edge load)
    (load_rows edges loads)
    (row_in_columns edge load (All-head HasId edge edges ids)
    (All-head IsBounded load loads bounded) (All-head
    (λ load. load.most ≤ℤ pos 1000) load loads rare))
    (rows_in_columns edges loads (All-tail HasId edge edges ids)
    (All-tail IsBounded load loads bounded) (All-tail
    (λ load. load.most ≤ℤ pos 1000) load loads rare))

-- ---- frequencies

not_passed : (b : Bool) (fault : Refusal) (more : List Refusal)
    → cond b (fault ∷ []) [] ++ more ≡ [] → b ≡ false
not_passed true fault more e = cc
not_passed false fault more e = refl

-- no maximal frequency is too great
pub all_rare : (loads : List EdgeLoad) → frequency_faults loads ≡ []
    → All (λ load. load.most ≤ℤ pos 1000) loads
all_rare [] none = All-nil (λ (load : EdgeLoad). load.most ≤ℤ pos 1000)
all_rare (load ∷ loads) none =
    grind (
      arith,
      int_lt,
      not_passed,
      unsigned_abs,
      All-cons,
      back_none,
      all_rare loads (back_none (cond (int_lt (pos 1000) load.most) (refusal.TooMany counted.Frequency (unsigned_abs load.most) ∷ []) []) (frequency_faults loads) none),
    )
