-- What stands in a config, row by row, with what an included file brings in the place behind its row.
use Rattle.std.specs.Prelude.{ℕ, zero, suc, ◌+◌, ◌==◌, nat_lt, if◌then◌else◌, Bool, true, false}
use Rattle.std.specs.Prelude.{List, [], ◌∷◌, length, codes, slice_index_or, Option, Some, None}
use Rattle.std.specs.List.{flat_map}
use Rattle.std.specs.Str.{bytes_eq}
use Rattle.plan_files.specs.declared.store.Got.{Got}
use Rattle.plan_files.specs.declared.store.Got.TheVariants.{Bytes, Absent, TooLong as Long}
use Rattle.plan_files.specs.Folder.{Folder, got_of}
use Rattle.tables.specs.declared.row_why.RowWhy.TheVariants as why
use Rattle.text_fields.specs.Rows.{Row, rows, has_mark}
use Rattle.config_keys.specs.declared.config_fault.ConfigFault.{ConfigFault}
use Rattle.config_keys.specs.declared.config_fault.ConfigFault.TheVariants as fault
use Rattle.config_keys.specs.Includes.{is_inside, path_of}

-- what a row says: a key with its value, an include of a file that may be passed over or not, or why it is refused
pub data Item : Type 0 where
  Setting : List ℕ → List ℕ → Item
  Include : List ℕ → ℕ → Bool → List ℕ → Item
  Fault : ConfigFault → Item

-- the most bytes of a file that people write: 64 MiB
abbrev pub file_limit : ℕ
file_limit = 67108864

-- how deep includes may be nested, and how many rows of them are read
abbrev pub most_levels : ℕ
most_levels = 8

abbrev pub most_includes : ℕ
most_includes = 1000

abbrev pub config_name : List ℕ
config_name = codes "basis/Config.cnf"

-- what is found under a name in a folder
abbrev pub look_in : Folder → List ℕ → Got
look_in folder name = got_of folder name file_limit

-- what an include row says, in a file below which so many levels are left
abbrev pub include_item : ℕ → List ℕ → ℕ → Bool → List ℕ → Item
include_item left file number optional name =
    if is_inside name then
    (if left == 0 then Fault (fault.TooDeep file number) else Include file number optional (path_of name)) else Fault
    (fault.IncludeOutside file number)

-- whether a key is a word of include rows, and then whether the file may be passed over where it is not there
unfoldable pub include_word : List ℕ → Option Bool
include_word key =
    if bytes_eq key (codes "include") then Some false else if bytes_eq key (codes "include_if_exists") then Some true
    else None

-- what a row of two fields says, by the word that its key is
abbrev pub pair_item : ℕ → List ℕ → ℕ → List ℕ → List ℕ → Option Bool → Item
pair_item left file number key value None = Setting key value
pair_item left file number key value (Some optional) = include_item left file number optional value

-- what a row says
unfoldable pub row_item : ℕ → List ℕ → Row → Item
row_item left file row =
    if length row.fields == 2 then pair_item left file row.number (slice_index_or row.fields 0 [])
    (slice_index_or row.fields 1 []) (include_word (slice_index_or row.fields 0 [])) else
    Fault (fault.BadRow file row.number (why.FieldCount (length row.fields)))

-- what an included file brings, by what is found under its path
abbrev pub got_items : (List ℕ → List ℕ → List Item) → Bool → List ℕ → Got → List Item
got_items inner optional path (Bytes text) = inner path text
got_items inner optional path Absent = if optional then [] else Fault (fault.MissingInclude path) ∷ []
got_items inner optional path Long = Fault (fault.TooLong path) ∷ []

-- what comes behind an item
abbrev pub brought : (List ℕ → Got) → (List ℕ → List ℕ → List Item) → Item → List Item
brought look inner (Include file number optional path) = got_items inner optional path (look path)
brought look inner (Setting key value) = []
brought look inner (Fault reason) = []

-- what a row says and brings
abbrev pub row_items : (List ℕ → Got) → (List ℕ → List ℕ → List Item) → ℕ → List ℕ → Row → List Item
row_items look inner left file row = row_item left file row ∷ brought look inner (row_item left file row)

-- what the rows of a text say and bring
abbrev pub text_items : (List ℕ → Got) → (List ℕ → List ℕ → List Item) → ℕ → List ℕ → List ℕ → List Item
text_items look inner left file text =
    if has_mark text then Fault (fault.BadRow file 1 why.ByteOrderMark) ∷ [] else flat_map
    (row_items look inner left file) (rows text)

-- what the text of an included file brings, below which includes may be so many levels deep, less one
unfoldable pub below : (List ℕ → Got) → ℕ → List ℕ → List ℕ → List Item
below look zero file text = []
below look (suc left) file text = text_items look (λ path inside. below look left path inside) left file text

-- what the text of a file says and brings, below which includes may be so many levels deep
unfoldable pub expanded : (List ℕ → Got) → ℕ → List ℕ → List ℕ → List Item
expanded look left file text = text_items look (below look left) left file text

-- what one of its rows says and brings
unfoldable pub row_brings : (List ℕ → Got) → ℕ → List ℕ → Row → List Item
row_brings look left file row = row_items look (below look left) left file row

-- what a dataset's config says; a config file that is not there is empty
abbrev pub config_items : (List ℕ → Got) → List Item
config_items look = got_items (expanded look most_levels) true config_name (look config_name)

-- the first fault among items, after so many include rows: a row that is refused, or an include row
-- after as many as are read
unfoldable pub first_fault : ℕ → List Item → Option ConfigFault
first_fault count [] = None
first_fault count (Setting key value ∷ items) = first_fault count items
first_fault count (Include file number optional path ∷ items) =
    if nat_lt count most_includes then first_fault (count + 1) items else Some (fault.TooManyIncludes file number)
first_fault count (Fault reason ∷ items) = Some reason

-- how many include rows there are
unfoldable pub include_count : List Item → ℕ
include_count [] = 0
include_count (Include file number optional path ∷ items) = include_count items + 1
include_count (Setting key value ∷ items) = include_count items
include_count (Fault reason ∷ items) = include_count items

-- what is said last of a key, after what was said before
unfoldable pub last_said : List ℕ → Option (List ℕ) → List Item → Option (List ℕ)
last_said name before [] = before
last_said name before (Setting key value ∷ items) =
    last_said name (if bytes_eq key name then Some value else before) items
last_said name before (Include file number optional path ∷ items) = last_said name before items
last_said name before (Fault reason ∷ items) = last_said name before items
