-- The value of each key, and which of them are not allowed.
use Rattle.std.specs.Prelude.{ℕ, ℤ, pos, not, List, map, Option, Some, None, Result, Ok, Err, is_some, unwrap_or}
use Rattle.std.specs.List.{find}
use Rattle.std.specs.Option.{option_map_or}
use Rattle.plan_files.specs.declared.store.Got.{Got}
use Rattle.giv_files.specs.declared.key.Key.{Key}
use Rattle.giv_files.specs.CrossRules.{keeps_rule}
use Rattle.giv_files.specs.KeyKinds.{kept_if, spelled_as}
use Rattle.giv_files.specs.Keys.{all_keys, key_name, key_kind, key_default, allows}
use Rattle.config_keys.specs.declared.config_fault.ConfigFault.{ConfigFault}
use Rattle.config_keys.specs.declared.config_fault.ConfigFault.TheVariants as fault
use Rattle.config_keys.specs.Items.{Item, config_items, first_fault, last_said}

-- the allowed value of a key by what is said of it last, or else its default
unfoldable pub own_value : Key → Option (List ℕ) → Option ℤ
own_value key None = Some (key_default key)
own_value key (Some field) = kept_if (allows key) (spelled_as (key_kind key) field)

-- the allowed values of keys by what is said of them
abbrev pub own_in : (Key → Option (List ℕ)) → Key → Option ℤ
own_in said key = own_value key (said key)

-- the value of a key, where it is allowed and keeps the rule of the key
unfoldable pub good_value : (Key → Option (List ℕ)) → Key → Option ℤ
good_value said key = kept_if (keeps_rule (own_in said) key) (own_in said key)

-- the first key without a good value
abbrev pub first_bad : (Key → Option (List ℕ)) → Option Key
first_bad said = find (λ key. not (is_some (good_value said key))) all_keys

-- the values of all keys in their order
abbrev pub values_in : (Key → Option (List ℕ)) → List ℤ
values_in said = map (λ key. unwrap_or (good_value said key) (pos 0)) all_keys

-- the values of all keys, or the first key whose value is bad
unfoldable pub settled : (Key → Option (List ℕ)) → Result (List ℤ) ConfigFault
settled said = option_map_or (λ key. Err (fault.BadValue key)) (first_bad said) (Ok (values_in said))

-- what items say last of each key
abbrev pub said_in : List Item → Key → Option (List ℕ)
said_in items key = last_said (key_name key) None items

-- the settings that items make: the first fault in reading order, or else the first bad value in the order of keys
unfoldable pub settings_of : List Item → Result (List ℤ) ConfigFault
settings_of items = option_map_or (λ reason. Err reason) (first_fault 0 items) (settled (said_in items))

-- the settings of a dataset, by what is found under each name
abbrev pub effective : (List ℕ → Got) → Result (List ℤ) ConfigFault
effective look = settings_of (config_items look)
