-- The cells of a row in the ranges of their columns, and the record that they stand for.
use Rattle.plan_num.proofs.Common.{◌≡◌, ℕ, ℤ, pos, negsuc, zero, suc, ◌+◌, ◌<◌, ◌≤◌, ◌≤ℤ◌, arith}
use Rattle.plan_num.proofs.Common.{true, false, ◌&&◌, Bool, List, [], ◌∷◌, length, map, get_or}
use Rattle.plan_num.proofs.Common.{int_le, refl, ap, sym, subst, ◌∙◌, unsigned_abs, list_all}
use Rattle.plan_num.proofs.Common.{range_with_len, le_z_yes, and_parts, T_from_true, ints, All-nil}
use Rattle.plan_num.proofs.Common.{All-cons}
use Rattle.tables.specs.declared.column.ColumnKind.{ColumnKind}
use Rattle.tables.proofs.Common.{table_words, InColumn, InColumns}
use Rattle.tables.specs.declared.column.ColumnKind.TheVariants as kind
use Rattle.tables.specs.declared.words.WordTable.TheVariants as table
use Rattle.event_tables.specs.declared.activity_kind.ActivityKind.{ActivityKind}
use Rattle.event_tables.specs.declared.activity_kind.ActivityKind.TheVariants as activity
use Rattle.event_tables.specs.declared.direction.Direction.{Direction}
use Rattle.event_tables.specs.declared.direction.Direction.TheVariants as direction
use Rattle.event_tables.specs.declared.event_kind.EventKind.{EventKind}
use Rattle.event_tables.specs.declared.event_kind.EventKind.TheVariants as event
use Rattle.event_tables.specs.declared.periodic_kind.PeriodicKind.{PeriodicKind}
use Rattle.event_tables.specs.declared.periodic_kind.PeriodicKind.TheVariants as periodic
use Rattle.event_tables.specs.declared.schedule_kind.ScheduleKind.{ScheduleKind}
use Rattle.event_tables.specs.declared.schedule_kind.ScheduleKind.TheVariants as schedule
use Rattle.event_tables.specs.Kinds.{event_kind_at, direction_at, activity_kind_at, periodic_kind_at, schedule_kind_at}
use Rattle.event_tables.specs.Kinds.{event_kind_place, direction_place, activity_kind_place, periodic_kind_place}
use Rattle.event_tables.specs.Kinds.{schedule_kind_place}
use Rattle.event_tables.specs.Cells.{IsSmall, AreSmall}
use Rattle.plan_num.proofs.Tests.{number_back}

-- ---- columns

-- the numbers of a column are not below 0, and below 2 to the power of 32
abbrev pub is_small : ColumnKind → Bool
is_small (kind.Whole min max) = int_le (pos 0) min && int_le max (pos 4294967295)
is_small (kind.Word words) = true
is_small _ = false

few_words : (words : _) → length (table_words words) ≤ 4294967296
few_words table.EventKind = omega arith
few_words table.ActivityKind = omega arith
few_words table.PeriodicKind = omega arith
few_words table.Direction = omega arith
few_words table.NodeKind = omega arith
few_words table.ScheduleKind = omega arith
few_words table.ReasonKind = omega arith
few_words table.WaitKind = omega arith

small_in : (column : ColumnKind) (cell : ℤ) → is_small column ≡ true → InColumn column cell
    → IsSmall cell
small_in (kind.Whole min max) cell small h = grind arith
small_in (kind.Word words) cell small h = subst IsSmall (sym h.2)
    (omega (arith, ints), omega (arith, ints, few_words words, h.1))
small_in (kind.Fixed min max) cell small h = cc
small_in kind.Skip cell small h = cc

-- cells in such columns are small
pub small_cells : (kinds : List ColumnKind) (cells : List ℤ) → list_all is_small kinds ≡ true
    → InColumns kinds cells → AreSmall cells
small_cells [] [] small h = All-nil IsSmall
small_cells [] (cell ∷ cells) small h = elim h [ ]
small_cells (column ∷ kinds) [] small h = elim h [ ]
small_cells (column ∷ kinds) (cell ∷ cells) small h =
    let parts = and_parts (is_small column) (list_all is_small kinds) small in
    All-cons IsSmall cell cells (small_in column cell parts.0 h.0) (small_cells kinds cells parts.1 h.1)

-- the cell in a column lies in its range
pub in_column : (kinds : List ColumnKind) (cells : List ℤ) (i : ℕ) → InColumns kinds cells
    → i < length kinds → InColumn (get_or kinds i kind.Skip) (get_or cells i (pos 0))
in_column [] cells i h within = absurd (omega arith)
in_column (column ∷ kinds) [] i h within = elim h [ ]
in_column (column ∷ kinds) (cell ∷ cells) zero h within = h.0
in_column (column ∷ kinds) (cell ∷ cells) (suc i) h within = in_column kinds cells i h.1
    (omega arith)

-- cells are those of all columns, one after the other
listed_from : (kinds : List ColumnKind) (cells : List ℤ) (f : ℕ → ℤ) (from : ℕ)
    → InColumns kinds cells → ((i : ℕ) → f (from + i) ≡ get_or cells i (pos 0)) → cells
    ≡ map f (range_with_len from (length kinds))
listed_from [] [] f from h at = refl
listed_from [] (cell ∷ cells) f from h at = elim h [ ]
listed_from (column ∷ kinds) [] f from h at = elim h [ ]
listed_from (column ∷ kinds) (cell ∷ cells) f from h at =
    let first : f from ≡ cell = ap f (sym (add_zero from)) ∙ at 0 in
    rw first (ap (λ rest. cell ∷ rest) (listed_from kinds cells f (from + 1) h.1
    (λ i. ap f (moved from i) ∙ at (suc i))))
  where
    add_zero : (n : ℕ) → n + 0 ≡ n
    add_zero n = omega arith

    moved : (n i : ℕ) → (n + 1) + i ≡ n + suc i
    moved n i = omega arith

pub listed : (kinds : List ColumnKind) (cells : List ℤ) → InColumns kinds cells → cells ≡ map
    (λ i. get_or cells i (pos 0)) (range_with_len 0 (length kinds))
listed kinds cells h = grind (arith, listed_from, get_or)

-- ---- numbers and words

-- the numbers of a column are not below 0
abbrev pub is_low : ColumnKind → Bool
is_low (kind.Whole min max) = int_le (pos 0) min
is_low _ = false

low_in : (column : ColumnKind) (cell : ℤ) → is_low column ≡ true → InColumn column cell
    → pos 0 ≤ℤ cell
low_in (kind.Whole min max) cell low h = let from : pos 0 ≤ℤ min =
    le_z_yes (T_from_true _ low) in omega (arith, ints, from, h.0)
low_in (kind.Word words) cell low h = cc
low_in (kind.Fixed min max) cell low h = cc
low_in kind.Skip cell low h = cc

-- the number in such a column is its cell
pub cell_back : (kinds : List ColumnKind) (cells : List ℤ) (i : ℕ) → InColumns kinds cells
    → i < length kinds → is_low (get_or kinds i kind.Skip) ≡ true
    → pos (unsigned_abs (get_or cells i (pos 0))) ≡ get_or cells i (pos 0)
cell_back kinds cells i h within low = number_back (get_or cells i (pos 0))
    (low_in (get_or kinds i kind.Skip) (get_or cells i (pos 0)) low (in_column kinds cells i h within))

pub periodic_kind_back : (cell : ℤ) → InColumn (kind.Word table.PeriodicKind) cell
    → pos (periodic_kind_place (periodic_kind_at (unsigned_abs cell))) ≡ cell
periodic_kind_back cell (zero, within, is) = rw is refl
periodic_kind_back cell (suc zero, within, is) = rw is refl
periodic_kind_back cell (suc (suc zero), within, is) = rw is refl
periodic_kind_back cell (suc (suc (suc zero)), within, is) = rw is refl
periodic_kind_back cell (suc (suc (suc (suc zero))), within, is) = rw is refl
periodic_kind_back cell (suc (suc (suc (suc (suc more)))), within, is) = absurd (omega arith)

pub schedule_kind_back : (cell : ℤ) → InColumn (kind.Word table.ScheduleKind) cell
    → pos (schedule_kind_place (schedule_kind_at (unsigned_abs cell))) ≡ cell
schedule_kind_back cell (zero, within, is) = rw is refl
schedule_kind_back cell (suc zero, within, is) = rw is refl
schedule_kind_back cell (suc (suc more), within, is) = absurd (omega arith)

-- a kind stands at the place of its word
pub event_kind_same : (k : EventKind) → event_kind_at (event_kind_place k) ≡ k
event_kind_same event.Departure = refl
event_kind_same event.Arrival = refl

pub direction_same : (k : Direction) → direction_at (direction_place k) ≡ k
direction_same direction.Forward = refl
direction_same direction.Backward = refl

pub activity_kind_same : (k : ActivityKind) → activity_kind_at (activity_kind_place k) ≡ k
activity_kind_same activity.Drive = refl
activity_kind_same activity.Wait = refl
activity_kind_same activity.Change = refl
activity_kind_same activity.Sync = refl

pub periodic_kind_same : (k : PeriodicKind) → periodic_kind_at (periodic_kind_place k) ≡ k
periodic_kind_same periodic.Drive = refl
periodic_kind_same periodic.Wait = refl
periodic_kind_same periodic.Change = refl
periodic_kind_same periodic.Sync = refl
periodic_kind_same periodic.Headway = refl

pub schedule_kind_same : (k : ScheduleKind) → schedule_kind_at (schedule_kind_place k) ≡ k
schedule_kind_same schedule.Trip = refl
schedule_kind_same schedule.Empty = refl
