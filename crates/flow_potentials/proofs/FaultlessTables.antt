-- A text without a fault as potentials is some.
use Rattle.plan_num.proofs.Common.{◌≡◌, ℕ, ◌+◌, ◌<◌, ◌≤◌, nat_lt, ◌&&◌, Bool, true, false, cond}
use Rattle.plan_num.proofs.Common.{List, [], ◌∷◌, ◌++◌, length, refl, arith, ltb-false, ltb-true}
use Rattle.tables.specs.declared.read_fault.RowFault.{RowFault}
use Rattle.tables.proofs.Common.{potential_columns, faults, table_of, TableRow, table_in_columns}
use Rattle.vehicle_model.specs.ReadSchedules.{or_others}
use Rattle.link_plans.proofs.Common.{AreOver, ArePotentials}
use Rattle.flow_potentials.specs.PotentialTables.{gaps_from, is_trip_row, potentials_of, table_faults}
use Rattle.flow_potentials.proofs.Tables.{table_over, table_potentials}
use Rattle.plan_num.proofs.Tests.{second_true}

or_none : {X : Type 0} (some others : List X) → or_others some others ≡ [] → (some ≡ []) × (others ≡ [])
or_none [] others e = (refl, e)
or_none (x ∷ some) others e = absurd (cc)

no_gap_here : (b : Bool) (gap : RowFault) (others : List RowFault) → cond b [] (gap ∷ []) ++ others ≡ []
    → (b ≡ true) × (others ≡ [])
no_gap_here true gap others e = (refl, e)
no_gap_here false gap others e = absurd (cc)

-- rows without a gap are those of all trips
all_rows : (count before : ℕ) (rows : List TableRow) → before ≤ count → gaps_from count before rows ≡ []
    → before + length rows ≡ count
unfolding gaps_from
all_rows count before [] few none = grind (arith, nat_lt, ltb-false)
all_rows count before (row ∷ rows) few none =
    let here = no_gap_here (is_trip_row count before row) _ _ none in
    let inside : before < count = ltb-true before count (second_true _ _ here.0) in
    let rest = all_rows count (before + 1) rows (omega (arith, inside)) here.1 in
    omega (arith, rest)

-- a text without a fault is that of potentials of all trips
pub faultless_potentials : (count : ℕ) (text : List ℕ) → table_faults count text ≡ []
    → AreOver count (potentials_of text) × ArePotentials (potentials_of text)
unfolding table_faults potentials_of
faultless_potentials count text none =
    let table = table_of potential_columns text in
    let parts = or_none (faults potential_columns text) _ none in
    let counted : length table ≡ count = let all = all_rows count 0 table (omega arith) parts.1 in omega
    (arith, all) in (
      table_over table count _ _ refl refl counted,
      table_potentials table (table_in_columns potential_columns text parts.0) _ _ refl refl,
    )
