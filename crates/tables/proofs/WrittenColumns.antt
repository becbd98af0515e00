-- Columns whose cells can be written, by a test that computes.
use Rattle.plan_num.proofs.Common.{arith, ◌≡◌, ℤ, pos, neg_ℤ, true, false, ◌&&◌, Bool, List, []}
use Rattle.plan_num.proofs.Common.{◌∷◌, All, int_le, list_all, and_parts, All-nil, All-cons}
use Rattle.tables.specs.declared.column.ColumnKind.{ColumnKind}
use Rattle.tables.specs.declared.column.ColumnKind.TheVariants as kind
use Rattle.tables.specs.Writing.{CanWrite, IsSmall as IsSmallRange}

-- the numbers of a range can be written
abbrev pub is_small_range : ℤ → ℤ → Bool
is_small_range min max =
    int_le (neg_ℤ (pos 1000000000000000000)) min && int_le max (pos 1000000000000000000)

-- the numbers of a column can be written
abbrev pub can_write : ColumnKind → Bool
can_write (kind.Whole min max) = is_small_range min max
can_write (kind.Fixed min max) = is_small_range min max
can_write (kind.Word words) = true
can_write kind.Skip = false

small_range : (min max : ℤ) → is_small_range min max ≡ true → IsSmallRange min max
small_range min max h = grind arith

written : (column : ColumnKind) → can_write column ≡ true → CanWrite column
written (kind.Whole min max) h = small_range min max h
written (kind.Fixed min max) h = small_range min max h
written (kind.Word words) h = tt
written kind.Skip h = cc

pub columns_written : (kinds : List ColumnKind) → list_all can_write kinds ≡ true
    → All CanWrite kinds
columns_written [] h = All-nil CanWrite
columns_written (column ∷ kinds) h =
    let parts = and_parts (can_write column) (list_all can_write kinds) h in
    All-cons CanWrite column kinds (written column parts.0) (columns_written kinds parts.1)
