-- From the table of a text to the text.
use Rattle.plan_num.proofs.Common.{arith, ◌≡◌, ℕ, List, [], ◌∷◌, length, map, slice_get, Option}
use Rattle.plan_num.proofs.Common.{Some, All, Result, Err, refl, ap, sym, subst, same_Some}
use Rattle.event_tables.proofs.Common.{schedule_row, AreSmall, small_cells}
use Rattle.tables.specs.declared.read_fault.ReadFault.{ReadFault}
use Rattle.tables.specs.declared.read_fault.RowFault.{RowFault}
use Rattle.tables.proofs.Common.{records_by, numbered_by, schedule_columns, faults, table_of}
use Rattle.tables.proofs.Common.{ReadGives, TableRow, table_in_columns}
use Rattle.tables.specs.declared.read_fault.ReadFault.TheVariants as read
use Rattle.vehicle_model.specs.declared.plan_fault.PlanFault.{PlanFault}
use Rattle.vehicle_model.specs.declared.plan_fault.PlanFault.TheVariants as fault
use Rattle.vehicle_model.specs.PlanFaults.{fault_of}
use Rattle.vehicle_model.specs.ReadSchedules.{nothing_read, links_in, or_others, row_faults}
use Rattle.vehicle_model.specs.ReadSchedules.{plan_by, plan_faults, plan_of, PlanGives}
use Rattle.vehicle_model.specs.Trips.{TripsParts}

first_row_fault : (all : List RowFault) (others : List PlanFault) (first : RowFault)
    → slice_get all 0 ≡ Some first
    → slice_get (or_others (map (λ one. fault.Row one) all) others) 0 ≡ Some (fault.Row first)
first_row_fault [] others first e = cc
first_row_fault (one ∷ all) others first e = ap (λ at. Some (fault.Row at)) (same_Some one first e)

-- a text that is no table
pub no_table : (trips : TripsParts) (text : List ℕ) (table : List TableRow) (why : ReadFault)
    → ReadGives (faults schedule_columns text) table (Err why)
    → PlanGives (plan_faults trips text) (plan_of trips text) (Err (fault_of why))
unfolding plan_faults
no_table trips text table (read.Row first) h = first_row_fault (faults schedule_columns text) _ first h
no_table trips text table read.NoMemory h = tt

-- no number in a table of a schedule is great
pub small_table : (text : List ℕ) (table : List TableRow) → faults schedule_columns text ≡ []
    → table ≡ table_of schedule_columns text → All (λ row. AreSmall row.cells) table
small_table text table none is = subst (All (λ row. AreSmall row.cells)) (sym is)
    (λ k d within. small_cells schedule_columns _ refl (table_in_columns schedule_columns text none k d within))

-- what is read of its rows is read of the text
pub rows_read : (trips : TripsParts) (text : List ℕ) (table : List TableRow) → faults schedule_columns text ≡ []
    → table ≡ table_of schedule_columns text → (result : Result (List (Option ℕ)) PlanFault)
    → PlanGives (row_faults trips (numbered_by schedule_row table))
    (plan_by (length trips.trips) (links_in trips nothing_read (records_by schedule_row table))) result
    → PlanGives (plan_faults trips text) (plan_of trips text) result
unfolding plan_faults plan_of
rows_read trips text table none is result gives = grind arith
