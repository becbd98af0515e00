-- Settings depend on the files alone that a config can name.
use Rattle.plan_num.proofs.Common.{arith, ◌≡◌, ℕ, zero, suc, Bool, true, false, eqb, List, [], ◌∷◌}
use Rattle.plan_num.proofs.Common.{length, Option, Some, None, refl, ap, if◌then◌else◌, flat_map}
use Rattle.plan_files.specs.declared.store.Got.{Got}
use Rattle.text_fields.specs.Rows.{Row, rows, has_mark}
use Rattle.tables.specs.declared.row_why.RowWhy.TheVariants as why
use Rattle.config_keys.specs.declared.config_fault.ConfigFault.{ConfigFault}
use Rattle.config_keys.specs.declared.config_fault.ConfigFault.TheVariants as fault
use Rattle.config_keys.specs.Includes.{is_inside, path_of}
use Rattle.config_keys.specs.Items.{Item, Setting, Include, Fault, include_word, pair_item}
use Rattle.config_keys.specs.Items.{row_item, brought, row_items, text_items, below, expanded}
use Rattle.config_keys.specs.Items.{config_name}
use Rattle.config_keys.specs.Values.{effective}

-- an item includes a file of the same folder, if it includes one
abbrev IsInside : Item → Type 0
IsInside (Setting key value) = Unit {0}
IsInside (Include file number optional path) = (name : List ℕ) × (is_inside name ≡ true) × (path ≡ path_of name)
IsInside (Fault reason) = Unit {0}

deep_or_inside : (deep : Bool) (file : List ℕ) (number : ℕ) (optional : Bool) (name : List ℕ) → is_inside name ≡ true
    → IsInside (if deep then Fault (fault.TooDeep file number) else Include file number optional (path_of name))
deep_or_inside true file number optional name h = tt
deep_or_inside false file number optional name h = (name, h, refl)

inside_or_not : (inside deep : Bool) (file : List ℕ) (number : ℕ) (optional : Bool) (name : List ℕ)
    → is_inside name ≡ inside
    → IsInside
    (if inside then (if deep then Fault (fault.TooDeep file number) else Include file number optional (path_of name))
    else Fault (fault.IncludeOutside file number))
inside_or_not true deep file number optional name h = deep_or_inside deep file number optional name h
inside_or_not false deep file number optional name h = tt

pair_inside : (left : ℕ) (file : List ℕ) (number : ℕ) (key value : List ℕ) (word : Option Bool)
    → IsInside (pair_item left file number key value word)
pair_inside left file number key value None = tt
pair_inside left file number key value (Some optional) =
    inside_or_not (is_inside value) (eqb left 0) file number optional value refl

two_or_not : (two : Bool) (item : Item) (reason : ConfigFault) → IsInside item
    → IsInside (if two then item else Fault reason)
two_or_not true item reason h = h
two_or_not false item reason h = tt

row_inside : (left : ℕ) (file : List ℕ) (row : Row) → IsInside (row_item left file row)
unfolding row_item
row_inside left file row =
    two_or_not (eqb (length row.fields) 2) _ _ (pair_inside left file row.number _ _ (include_word _))

module _ (look other : List ℕ → Got)
    (same : (name : List ℕ) → is_inside name ≡ true → look (path_of name) ≡ other (path_of name)) where
  brought_same : (inner more : List ℕ → List ℕ → List Item) → inner ≡ more → (item : Item) → IsInside item
      → brought look inner item ≡ brought other more item
  brought_same inner more e (Setting key value) h = refl
  brought_same inner more e (Include file number optional path) h = grind arith
  brought_same inner more e (Fault reason) h = refl

  row_same : (inner more : List ℕ → List ℕ → List Item) → inner ≡ more → (left : ℕ) (file : List ℕ) (row : Row)
      → row_items look inner left file row ≡ row_items other more left file row
  row_same inner more e left file row =
      ap (λ items. row_item left file row ∷ items)
      (brought_same inner more e (row_item left file row) (row_inside left file row))

  text_same : (inner more : List ℕ → List ℕ → List Item) → inner ≡ more → (left : ℕ) (file text : List ℕ)
      → text_items look inner left file text ≡ text_items other more left file text
  text_same inner more e left file text =
      ap (λ items. if has_mark text then Fault (fault.BadRow file 1 why.ByteOrderMark) ∷ [] else flat_map items
      (rows text)) (λ i row. row_same inner more e left file row i)

  below_same : (left : ℕ) (file text : List ℕ) → below look left file text ≡ below other left file text
  unfolding below
  below_same zero file text = refl
  below_same (suc left) file text =
      text_same (λ path inside. below look left path inside) (λ path inside. below other left path inside)
      (λ i path inside. below_same left path inside i) left file text

  expanded_same : (left : ℕ) (file text : List ℕ) → expanded look left file text ≡ expanded other left file text
  unfolding expanded
  expanded_same left file text =
      text_same (below look left) (below other left) (λ i path inside. below_same left path inside i) left file text

  -- the settings are the same where the same is found under each name that a config can have
  pub effective_same : look config_name ≡ other config_name → effective look ≡ effective other
  effective_same first = grind (arith, expanded_same)
