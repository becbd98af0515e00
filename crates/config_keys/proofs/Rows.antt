-- What a row says.
use Rattle.plan_num.proofs.Common.{◌≡◌, ◌≢◌, ℕ, Bool, true, false, List, [], length, Some, None}
use Rattle.plan_num.proofs.Common.{string_bytes, slice_index_or, refl, arith, nat_tests}
use Rattle.tables.specs.declared.row_why.RowWhy.TheVariants as why
use Rattle.text_fields.specs.Rows.{Row}
use Rattle.config_keys.specs.declared.config_fault.ConfigFault.TheVariants as fault
use Rattle.config_keys.specs.declared.settings_file.IncludeRow.{IncludeRow}
use Rattle.config_keys.specs.Includes.{is_inside, path_of}
use Rattle.config_keys.specs.Items.{Setting, Fault, include_item, include_word, row_item}
use Rattle.config_keys.specs.SettingsFiles.{kept_item}

-- a name that is outside
pub outside : (left : ℕ) (file : List ℕ) (row : ℕ) (optional : Bool) (name : List ℕ) → is_inside name ≡ false
    → include_item left file row optional name ≡ Fault (fault.IncludeOutside file row)
outside left file row optional name e = rw e refl

-- an include row that is kept
pub kept : (left : ℕ) (file : List ℕ) (row : ℕ) (optional : Bool) (name : List ℕ) (include : IncludeRow)
    → is_inside name ≡ true
    → include.row ≡ row → include.optional ≡ optional → string_bytes include.path ≡ path_of name
    → include_item left file row optional name ≡ kept_item left file include
kept left file row optional name include e r o p = rw (e, r, o, p) refl

-- a row without two fields
pub odd_row : (left : ℕ) (file : List ℕ) (row : Row) (number found : ℕ) → length row.fields ≢ 2 → number ≡ row.number
    → found ≡ length row.fields
    → row_item left file row ≡ Fault (fault.BadRow file number (why.FieldCount found))
unfolding row_item
odd_row left file row number found e g h = grind (arith, nat_tests)

-- a row of a key with its value
pub setting_row : (left : ℕ) (file : List ℕ) (row : Row) (key value : List ℕ) → length row.fields ≡ 2
    → key ≡ slice_index_or row.fields 0 [] → value ≡ slice_index_or row.fields 1 [] → include_word key ≡ None
    → row_item left file row ≡ Setting key value
unfolding row_item
setting_row left file row key value two k v word = rw (two, ← k, ← v, word) refl

-- an include row
pub include_row : (left : ℕ) (file : List ℕ) (row : Row) (key value : List ℕ) (number : ℕ) (optional : Bool)
    → length row.fields ≡ 2 → key ≡ slice_index_or row.fields 0 [] → value ≡ slice_index_or row.fields 1 []
    → number ≡ row.number
    → include_word key ≡ Some optional → row_item left file row ≡ include_item left file number optional value
unfolding row_item
include_row left file row key value number optional two k v n word = rw (two, ← k, ← v, word, n) refl
