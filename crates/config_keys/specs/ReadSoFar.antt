-- What has been read so far.
use Rattle.std.specs.Prelude.{ℕ, ◌≡◌, ◌+◌, nat_eq, Bool, List, [], ◌∷◌, Option, Some, None, Result, Ok, Err, ⊤}
use Rattle.std.specs.List.{find, flat_map}
use Rattle.std.specs.Option.{option_map_or}
use Rattle.std.specs.Str.{bytes_eq}
use Rattle.indexmap.specs.IndexMap.{get}
use Rattle.giv_files.specs.declared.key.Key.{Key}
use Rattle.giv_files.specs.Keys.{all_keys, key_place, key_name}
use Rattle.config_keys.specs.declared.config_end.ConfigEnd.{ConfigEnd}
use Rattle.config_keys.specs.declared.config_end.ConfigEnd.TheVariants.{Refused, FileFault, NoMemory}
use Rattle.config_keys.specs.declared.reading.Reading.{Reading}
use Rattle.config_keys.specs.declared.said.Said.{Said}
use Rattle.config_keys.specs.Items.{Item, Setting, first_fault, include_count, last_said}

-- what is said last of a key
abbrev pub text_of : Said → Key → Option (List ℕ)
text_of said key = get nat_eq said.texts (key_place key)

-- the same as items: one for each key of which something is said, in the order of keys
abbrev pub said_item : Said → Key → List Item
said_item said key = option_map_or (λ value. Setting (key_name key) value ∷ []) (text_of said key) []

abbrev pub said_items : Said → List Item
said_items said = flat_map (said_item said) all_keys

-- what is said last of each key after items
abbrev pub SaysOn : List Item → Said → Said → Type 0
SaysOn items old new = (key : Key) → text_of new key ≡ last_said (key_name key) (text_of old key) items

-- what was said last of a key
abbrev pub said_of : Reading → Key → Option (List ℕ)
said_of reading key = text_of reading.said key

-- a key has a name
abbrev pub is_named : List ℕ → Key → Bool
is_named name key = bytes_eq name (key_name key)

-- the key of a name
abbrev pub key_named : List ℕ → Option Key
key_named name = find (is_named name) all_keys

-- reading goes on over items without a fault
pub record ReadOn (items : List Item) (old new : Reading) : Type 0 where
  pub faultless : first_fault old.includes items ≡ None
  pub counted : new.includes ≡ old.includes + include_count items
  pub told : (key : Key) → said_of new key ≡ last_said (key_name key) (said_of old key) items

-- what reading items gives: it goes on over them, or it is refused for the first fault among them; other ends are free
abbrev pub ReadGives : List Item → Reading → Reading → Result (Unit {0}) ConfigEnd → Type 0
ReadGives items old new (Ok _) = ReadOn items old new
ReadGives items old new (Err (Refused reason)) = first_fault old.includes items ≡ Some reason
ReadGives items old new (Err FileFault) = ⊤
ReadGives items old new (Err NoMemory) = ⊤
