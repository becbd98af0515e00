-- The fault of a config names its config file, or one that this can include.
use Rattle.plan_num.proofs.Common.{arith, ◌≡◌, ℕ, zero, suc, Bool, true, false, eqb, List, [], ◌∷◌}
use Rattle.plan_num.proofs.Common.{◌++◌, ◌+◌, length, nat_lt, Option, Some, None, IfSome, IfErr}
use Rattle.plan_num.proofs.Common.{Err, refl, if◌then◌else◌, flat_map, option_map_or}
use Rattle.plan_files.specs.declared.store.Got.{Got}
use Rattle.plan_files.specs.declared.store.Got.TheVariants.{Bytes, Absent}
use Rattle.plan_files.specs.declared.store.Got.TheVariants.{TooLong as Long}
use Rattle.giv_files.specs.declared.key.Key.{Key}
use Rattle.text_fields.specs.Rows.{Row}
use Rattle.config_keys.specs.declared.config_fault.ConfigFault.{ConfigFault}
use Rattle.config_keys.specs.declared.config_fault.ConfigFault.TheVariants as fault
use Rattle.config_keys.specs.Includes.{is_inside, path_of}
use Rattle.config_keys.specs.Items.{Item, Setting, Include, Fault, include_word, pair_item}
use Rattle.config_keys.specs.Items.{row_item, got_items, brought, row_items, text_items, below}
use Rattle.config_keys.specs.Items.{expanded, config_name, config_items, first_fault}
use Rattle.config_keys.specs.Items.{most_levels}
use Rattle.config_keys.specs.NamedConfigs.{ConfigNames}
use Rattle.config_keys.specs.Values.{effective, settings_of, settled, said_in}

module _ (test : List ℕ → Bool) (inside_is : (name : List ℕ) → is_inside name ≡ true → test (path_of name) ≡ true) where
  -- an item names no file but those that pass the test
  abbrev ItemNames : Item → Type 0
  ItemNames (Setting key value) = Unit {0}
  ItemNames (Include file number optional path) = (test file ≡ true) × (test path ≡ true)
  ItemNames (Fault reason) = ConfigNames test reason

  abbrev AllName : List Item → Type 0
  AllName [] = Unit {0}
  AllName (item ∷ items) = ItemNames item × AllName items

  both_name : (items more : List Item) → AllName items → AllName more → AllName (items ++ more)
  both_name [] more h k = k
  both_name (item ∷ items) more h k = (h.0, both_name items more h.1 k)

  -- ---- one row

  deep_or_inside : (deep : Bool) (file : List ℕ) (number : ℕ) (optional : Bool) (name : List ℕ) → test file ≡ true
      → is_inside name ≡ true
      → ItemNames (if deep then Fault (fault.TooDeep file number) else Include file number optional (path_of name))
  deep_or_inside true file number optional name is h = is
  deep_or_inside false file number optional name is h = (is, inside_is name h)

  inside_or_not : (inside deep : Bool) (file : List ℕ) (number : ℕ) (optional : Bool) (name : List ℕ)
      → test file ≡ true → is_inside name ≡ inside
      → ItemNames
      (if inside then
      (if deep then Fault (fault.TooDeep file number) else Include file number optional (path_of name)) else Fault
      (fault.IncludeOutside file number))
  inside_or_not true deep file number optional name is h = deep_or_inside deep file number optional name is h
  inside_or_not false deep file number optional name is h = is

  pair_names : (left : ℕ) (file : List ℕ) (number : ℕ) (key value : List ℕ) (word : Option Bool) → test file ≡ true
      → ItemNames (pair_item left file number key value word)
  pair_names left file number key value None is = tt
  pair_names left file number key value (Some optional) is =
      inside_or_not (is_inside value) (eqb left 0) file number optional value is refl

  two_or_not : (two : Bool) (item : Item) (reason : ConfigFault) → ItemNames item → ConfigNames test reason
      → ItemNames (if two then item else Fault reason)
  two_or_not true item reason h k = h
  two_or_not false item reason h k = k

  row_names : (left : ℕ) (file : List ℕ) (row : Row) → test file ≡ true → ItemNames (row_item left file row)
  unfolding row_item
  row_names left file row is =
      two_or_not (eqb (length row.fields) 2) _ _ (pair_names left file row.number _ _ (include_word _) is) is

  -- ---- a text, and what it includes

  module _ (look : List ℕ → Got) where
    -- what the texts of included files bring
    abbrev InnerNames : (List ℕ → List ℕ → List Item) → Type 0
    InnerNames inner = (path text : List ℕ) → test path ≡ true → AllName (inner path text)

    optional_names : (optional : Bool) (path : List ℕ) → test path ≡ true
        → AllName (if optional then [] else Fault (fault.MissingInclude path) ∷ [])
    optional_names true path is = tt
    optional_names false path is = (is, tt)

    got_names : (inner : List ℕ → List ℕ → List Item) → InnerNames inner
        → (optional : Bool) (path : List ℕ) (got : Got) → test path ≡ true → AllName (got_items inner optional path got)
    got_names inner h optional path (Bytes text) is = h path text is
    got_names inner h optional path Absent is = optional_names optional path is
    got_names inner h optional path Long is = (is, tt)

    brought_names : (inner : List ℕ → List ℕ → List Item) → InnerNames inner → (item : Item) → ItemNames item
        → AllName (brought look inner item)
    brought_names inner h (Setting key value) names = tt
    brought_names inner h (Include file number optional path) names =
        got_names inner h optional path (look path) names.1
    brought_names inner h (Fault reason) names = tt

    rows_names : (inner : List ℕ → List ℕ → List Item) → InnerNames inner
        → (left : ℕ) (file : List ℕ) (all : List Row) → test file ≡ true
        → AllName (flat_map (row_items look inner left file) all)
    rows_names inner h left file [] is = tt
    rows_names inner h left file (row ∷ all) is =
        grind (arith, row_names, both_name, brought_names, rows_names inner h left file all is)

    text_names : (inner : List ℕ → List ℕ → List Item) → InnerNames inner → (left : ℕ) (file text : List ℕ)
        → test file ≡ true → AllName (text_items look inner left file text)
    text_names inner h left file text is = grind (arith, rows_names)

    below_names : (left : ℕ) → InnerNames (below look left)
    unfolding below
    below_names zero path text is = tt
    below_names (suc left) path text is =
        text_names (λ path inside. below look left path inside) (λ path inside own. below_names left path inside own)
        left path text is

    expanded_names : InnerNames (expanded look most_levels)
    unfolding expanded
    expanded_names path text is = text_names (below look most_levels) (below_names most_levels) most_levels path text is

    -- ---- the first fault

    first_names : (count : ℕ) (items : List Item) → AllName items → IfSome (first_fault count items) (ConfigNames test)
    unfolding first_fault
    first_names count [] h = tt
    first_names count (Setting key value ∷ items) h = first_names count items h.1
    first_names count (Include file number optional path ∷ items) h = grind (
      arith,
      nat_lt,
      first_names (count + 1) items h.1,
    )
    first_names count (Fault reason ∷ items) h = h.0

    settled_names : (said : Key → Option (List ℕ)) → IfErr (settled said) (ConfigNames test)
    unfolding settled
    settled_names said = grind arith

    settings_name : (items : List Item) → AllName items → IfErr (settings_of items) (ConfigNames test)
    unfolding settings_of
    settings_name items h = by (first_fault 0 items) (first_names 0 items h)
      where
        by : (first : Option ConfigFault) → IfSome first (ConfigNames test)
            → IfErr (option_map_or (λ reason. Err reason) first (settled (said_in items))) (ConfigNames test)
        by None named = settled_names (said_in items)
        by (Some reason) named = named

    -- where the settings are refused, the fault names no other file
    pub config_names : test config_name ≡ true → IfErr (effective look) (ConfigNames test)
    config_names is =
        settings_name (config_items look)
        (got_names (expanded look most_levels) expanded_names true config_name (look config_name) is)
