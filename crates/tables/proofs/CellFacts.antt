-- Cells of a row, one after the other.
use Rattle.plan_num.proofs.Common.{arith, ◌≡◌, ℕ, ◌+◌, ◌<◌, ◌≤◌, List, [], ◌∷◌, ◌++◌, length, map}
use Rattle.plan_num.proofs.Common.{drop, get_or, refl, ap, sym, ◌∙◌, Bool, cond, Some, Ok, Err}
use Rattle.plan_num.proofs.Common.{Result, ℤ, not, append_assoc, append-nil, prefix_len, position}
use Rattle.plan_num.proofs.Common.{slice_get, length-map, drop_more, drop_all}
use Rattle.tables.specs.declared.column.ColumnKind.{ColumnKind}
use Rattle.tables.specs.declared.row_why.RowWhy.{RowWhy}
use Rattle.tables.specs.declared.read_fault.ReadFault.{ReadFault}
use Rattle.tables.specs.declared.read_fault.ReadFault.TheVariants as fault
use Rattle.tables.specs.InnerReading.{CellsGive, CellsLeft}
use Rattle.tables.specs.Reading.{cell_of, cells_from, errors, values}

prefix_len-map : {X Y : Type 0} (p : Y → Bool) (f : X → Y) (xs : List X) → prefix_len p (map f xs)
    ≡ prefix_len (λ x. p (f x)) xs
prefix_len-map p f [] = refl
prefix_len-map p f (x ∷ xs) = ap (λ n. cond (p (f x)) (1 + n) 0) (prefix_len-map p f xs)

-- the first place among images that passes
pub position-map : {X Y : Type 0} (p : Y → Bool) (f : X → Y) (xs : List X) → position p (map f xs)
    ≡ position (λ x. p (f x)) xs
position-map p f xs = rw (length-map xs f, prefix_len-map (λ y. not (p y)) f xs) refl

-- the cell of the next column, and those after it
cells_more : (kinds : List ColumnKind) (fields : List (List ℕ)) (i : ℕ) (kind : ColumnKind)
    → i < length kinds → i < length fields
    → cells_from (i + 1) (drop i kinds) (drop i fields)
    ≡ cell_of (get_or kinds i kind) (i + 1) (get_or fields i []) ∷ cells_from (i + 1 + 1)
    (drop (i + 1) kinds) (drop (i + 1) fields)
unfolding cells_from
cells_more kinds fields i kind h k = rw (drop_more kinds i kind h, drop_more fields i [] k) refl

-- after the last column there is none
cells_done : (kinds : List ColumnKind) (fields : List (List ℕ)) (column i : ℕ) → length kinds ≤ i
    → cells_from column (drop i kinds) (drop i fields) ≡ []
unfolding cells_from
cells_done kinds fields column i h = rw (drop_all i kinds h) refl

-- a cell that is made is no error, and one that is not made is the first
pub errors_ok : {A E : Type 0} (value : A) (rest : List (Result A E)) → errors (Ok value ∷ rest) ≡ errors rest
unfolding errors
errors_ok value rest = refl

errors_err : {A E : Type 0} (error : E) (rest : List (Result A E)) → errors (Err error ∷ rest) ≡ error ∷ errors rest
unfolding errors
errors_err error rest = refl

pub values_ok : {A E : Type 0} (value : A) (rest : List (Result A E)) → values (Ok value ∷ rest) ≡ value ∷ values rest
unfolding values
values_ok value rest = refl

pub errors_none : (A E : Type 0) → errors {A = A} {E = E} [] ≡ []
unfolding errors
errors_none A E = refl

pub values_none : (A E : Type 0) → values {A = A} {E = E} [] ≡ []
unfolding values
values_none A E = refl

-- a cell that is made goes from those that are left to those that are there
pub cell_taken : (kinds : List ColumnKind) (fields : List (List ℕ)) (i : ℕ) (kind : ColumnKind)
    (cell : ℤ) (all : List RowWhy) (old new whole : List ℤ) → i < length kinds → i < length fields
    → cell_of (get_or kinds i kind) (i + 1) (get_or fields i []) ≡ Ok cell → new ≡ old ++ cell ∷ []
    → errors (cells_from (i + 1) (drop i kinds) (drop i fields)) ≡ all → old
    ++ values (cells_from (i + 1) (drop i kinds) (drop i fields)) ≡ whole
    → (errors (cells_from (i + 1 + 1) (drop (i + 1) kinds) (drop (i + 1) fields)) ≡ all)
    × (new ++ values (cells_from (i + 1 + 1) (drop (i + 1) kinds) (drop (i + 1) fields)) ≡ whole)
cell_taken kinds fields i kind cell all old new whole h k made pushed left told =
    grind (arith, cells_more, errors_ok, append_assoc, values_ok)

-- a cell that is not made is the first of all errors
pub cell_refused : (kinds : List ColumnKind) (fields : List (List ℕ)) (i : ℕ) (kind : ColumnKind)
    (why : RowWhy) (all : List RowWhy) {T : Type 0} (fault : RowWhy → T) → i < length kinds
    → i < length fields
    → cell_of (get_or kinds i kind) (i + 1) (get_or fields i []) ≡ Err why
    → errors (cells_from (i + 1) (drop i kinds) (drop i fields)) ≡ all
    → slice_get (map fault all) 0 ≡ Some (fault why)
cell_refused kinds fields i kind why all fault h k made left = grind (arith, cells_more, errors_err)

-- after the last column all cells are there
pub cells_whole : (kinds : List ColumnKind) (fields : List (List ℕ)) (i : ℕ) (all : List RowWhy)
    (old whole : List ℤ) → length kinds ≤ i
    → errors (cells_from (i + 1) (drop i kinds) (drop i fields)) ≡ all → old
    ++ values (cells_from (i + 1) (drop i kinds) (drop i fields)) ≡ whole → (all ≡ [])
    × (old ≡ whole)
cells_whole kinds fields i all old whole h left told =
    grind (arith, cells_done, errors_none, append-nil, values_none)

-- after the last column nothing is left, whichever place that is
pub left_none : (kinds : List ColumnKind) (fields : List (List ℕ)) (i n : ℕ) (old new : List ℤ)
    → length kinds ≤ i → length kinds ≤ n → CellsLeft kinds fields i old new
    → CellsLeft kinds fields n old new
left_none kinds fields i n old new h k left =
    rw (cells_done kinds fields (n + 1) n k) (rw (cells_done kinds fields (i + 1) i h) at left)

-- what the rest of the columns gives is what all of them give
pub cells_joined : (number : ℕ) (made rest : List (Result ℤ RowWhy)) (old now new : List ℤ)
    (result : Result (Unit {0}) ReadFault) → errors rest ≡ errors made
    → now ++ values rest ≡ old ++ values made → CellsGive number rest now new result
    → CellsGive number made old new result
cells_joined number made rest old now new (Ok done) same whole gives =
    (sym same ∙ gives.0, gives.1 ∙ whole)
cells_joined number made rest old now new (Err (fault.Row first)) same whole gives =
    rw same at gives
cells_joined number made rest old now new (Err fault.NoMemory) same whole gives = tt
