-- Potentials that are written are read back.
use Rattle.plan_num.proofs.Common.{◌≡◌, ℕ, ℤ, suc, pos, ◌+◌, ◌≤◌, nat_lt, List, [], ◌∷◌, length}
use Rattle.plan_num.proofs.Common.{map, drop, get_or, slice_get, unsigned_abs, All, Some, Result}
use Rattle.plan_num.proofs.Common.{Ok, Err, IfOk, refl, ap, sym, subst, arith, eq-eqb, lt-ltb, ints}
use Rattle.plan_num.proofs.Common.{All-nil, All-cons}
use Rattle.tables.specs.declared.read_fault.RowFault.{RowFault}
use Rattle.tables.specs.declared.read_fault.ReadFault.{ReadFault}
use Rattle.tables.proofs.Common.{potential_columns, faults, table_of, ReadGives, TableRow}
use Rattle.tables.proofs.Common.{table_text, CanWrite, ReadsBack, plain_header, table_in_columns}
use Rattle.tables.proofs.Common.{written_back}
use Rattle.tables.specs.declared.read_fault.ReadFault.TheVariants as read
use Rattle.vehicle_model.specs.ReadSchedules.{or_others}
use Rattle.link_plans.proofs.Common.{PotentialParts, IsSmall, ArePotentials}
use Rattle.flow_potentials.specs.PotentialTables.{rows_from, potential_rows, potential_header}
use Rattle.flow_potentials.specs.PotentialTables.{potentials_text, gaps_from, table_faults}
use Rattle.flow_potentials.specs.PotentialTables.{column_of, potentials_in, potentials_of}
use Rattle.flow_potentials.specs.PotentialTables.{IsReadBack, FitsColumns, PotentialsGive}

-- the columns can be written
pub columns_written : All CanWrite potential_columns
columns_written = grind arith

-- ---- the rows of potentials are in their columns

rows_fit_from : (trip : ℕ) (u v : List ℕ) → 1 ≤ trip → trip + length u ≤ 1000000001 → All IsSmall u → All IsSmall v
    → All FitsColumns (rows_from trip u v)
rows_fit_from trip [] v low few small_u small_v = All-nil FitsColumns
rows_fit_from trip (a ∷ u) [] low few small_u small_v = All-nil FitsColumns
rows_fit_from trip (a ∷ u) (b ∷ v) low few small_u small_v =
    let a_small : a ≤ 1000000000000000000 = small_u 0 0 (omega arith) in
    let b_small : b ≤ 1000000000000000000 = small_v 0 0 (omega arith) in
    All-cons FitsColumns (record { number = 0; cells = pos trip ∷ pos a ∷ pos b ∷ [] }) (rows_from (trip + 1) u v) (
      (omega (arith, ints, low), omega (arith, ints, few)),
      ((omega (arith, ints), omega (arith, ints, a_small)), ((omega (arith, ints), omega (arith, ints, b_small)), tt)),
    )
    (rows_fit_from (trip + 1) u v (omega arith) (omega (arith, few))
    (λ k d h. small_u (suc k) d (omega (arith, h))) (λ k d h. small_v (suc k) d (omega (arith, h))))

pub rows_fit : (potentials : PotentialParts) → ArePotentials potentials → length potentials.u ≤ 1000000000
    → All FitsColumns (potential_rows potentials)
rows_fit potentials are few = rows_fit_from 1 potentials.u potentials.v (omega arith) (omega (arith, few))
    are.u_small are.v_small

-- ---- a table with the cells of potentials

-- what a table of such cells is read as
record IsTable (count before : ℕ) (table : List TableRow) (u v : List ℕ) : Type 0 where
  gaps : gaps_from count before table ≡ []
  u_is : column_of 1 table ≡ u
  v_is : column_of 2 table ≡ v

first_cells : (row : TableRow) (table : List TableRow) (cells : List ℤ) (rest : List (List ℤ))
    → map (λ one. one.cells) (row ∷ table) ≡ cells ∷ rest → row.cells ≡ cells
first_cells row table cells rest e = ap (λ all. get_or all 0 []) e

rest_cells : (row : TableRow) (table : List TableRow) (cells : List ℤ) (rest : List (List ℤ))
    → map (λ one. one.cells) (row ∷ table) ≡ cells ∷ rest → map (λ one. one.cells) table ≡ rest
rest_cells row table cells rest e = ap (drop 1) e

table_is : (count before : ℕ) (table : List TableRow) (u v : List ℕ) → length u ≡ length v → before + length u ≡ count
    → map (λ one. one.cells) table ≡ map (λ one. one.cells) (rows_from (before + 1) u v)
    → IsTable count before table u v
unfolding gaps_from
table_is count before [] [] [] same all e = grind arith
table_is count before table [] (b ∷ v) same all e = absurd (omega (arith, same))
table_is count before table (a ∷ u) [] same all e = absurd (omega (arith, same))
table_is count before (row ∷ table) [] [] same all e = cc
table_is count before [] (a ∷ u) (b ∷ v) same all e = cc
table_is count before (row ∷ table) (a ∷ u) (b ∷ v) same all e =
    grind (
      arith,
      first_cells,
      rest_cells,
      unsigned_abs,
      get_or,
      eq-eqb,
      nat_lt,
      lt-ltb,
      table_is count (before + 1) table u v (omega (arith, same)) (omega (arith, all)) (rest_cells row table _ _ e),
    )

-- a text with the cells of potentials
pub reads_back : (potentials : PotentialParts) → ArePotentials potentials → (text : List ℕ)
    → ReadsBack potential_columns (potential_rows potentials) text → IsReadBack potentials text
unfolding table_faults potentials_of
reads_back potentials are text back =
    let is = table_is (length potentials.u) 0 (table_of potential_columns text) potentials.u potentials.v
    are.each (omega arith) back.1 in grind arith

pub written : (potentials : PotentialParts) → ArePotentials potentials → (table : List TableRow)
    → table ≡ potential_rows potentials → {E : Type 0} (result : Result (List ℕ) E)
    → IfOk result (ReadsBack potential_columns table) → IfOk result (IsReadBack potentials)
written potentials are table is (Err fault) back = tt
written potentials are table is (Ok text) back =
    reads_back potentials are text (subst (λ rows. ReadsBack potential_columns rows text) is back)

-- the text of potentials is read back to them
pub text_back : (potentials : PotentialParts) → ArePotentials potentials → length potentials.u ≤ 1000000000
    → IsReadBack potentials (potentials_text potentials)
unfolding potentials_text
text_back potentials are few = reads_back potentials are
    (table_text potential_header potential_columns (potential_rows potentials))
    (written_back potential_header potential_columns (potential_rows potentials) (omega arith)
    columns_written (rows_fit potentials are few) (refl, plain_header potential_header refl))

-- ---- from the table of a text to the text

first_fault : (all others : List RowFault) (first : RowFault) → slice_get all 0 ≡ Some first
    → slice_get (or_others all others) 0 ≡ Some first
first_fault [] others first e = cc
first_fault (one ∷ all) others first e = e

pub no_table : (count : ℕ) (text : List ℕ) (table : List TableRow) (fault : ReadFault)
    → ReadGives (faults potential_columns text) table (Err fault)
    → PotentialsGive (table_faults count text) (potentials_of text) (Err fault)
unfolding table_faults
no_table count text table (read.Row first) h = first_fault (faults potential_columns text) _ first h
no_table count text table read.NoMemory h = tt

pub rows_read : (count : ℕ) (text : List ℕ) (table : List TableRow) → faults potential_columns text ≡ []
    → table ≡ table_of potential_columns text → (result : Result PotentialParts ReadFault)
    → PotentialsGive (gaps_from count 0 table) (potentials_in table) result
    → PotentialsGive (table_faults count text) (potentials_of text) result
unfolding table_faults potentials_of
rows_read count text table none is result gives = grind arith

pub table_fits : (text : List ℕ) (table : List TableRow) → faults potential_columns text ≡ []
    → table ≡ table_of potential_columns text → All FitsColumns table
table_fits text table none is =
    subst (All FitsColumns) (sym is) (table_in_columns potential_columns text none)
