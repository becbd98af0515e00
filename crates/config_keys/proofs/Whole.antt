-- What was read of a dataset's config settles its settings.
use Rattle.plan_num.proofs.Common.{◌≡◌, ℤ, List, Option, Some, None, IfSome, Result, Ok, Err, refl}
use Rattle.plan_num.proofs.Common.{ap, sym, ◌∙◌}
use Rattle.plan_files.proofs.Common.{Folder}
use Rattle.giv_files.specs.declared.key.Key.{Key}
use Rattle.giv_files.proofs.Common.{key_name}
use Rattle.config_keys.specs.declared.config_end.ConfigEnd.{ConfigEnd}
use Rattle.config_keys.specs.declared.config_end.ConfigEnd.TheVariants.{Refused, FileFault, NoMemory}
use Rattle.config_keys.specs.declared.reading.Reading.{Reading}
use Rattle.config_keys.specs.Config.{SettleGives}
use Rattle.config_keys.specs.Effective.{ConfigGives}
use Rattle.config_keys.specs.Items.{Item, look_in, config_items, last_said}
use Rattle.config_keys.specs.ReadSoFar.{said_of, ReadOn, ReadGives}
use Rattle.config_keys.specs.Values.{said_in, settled, settings_of, effective}

-- a fault while reading
pub refused : (contents : Option Folder) (old new : Reading) (end : ConfigEnd) (result : Result (List ℤ) ConfigEnd)
    → old.includes ≡ 0 → IfSome contents (λ folder. ReadGives (config_items (look_in folder)) old new (Err end))
    → result ≡ Err end
    → IfSome contents (λ folder. ConfigGives (effective (look_in folder)) result)
unfolding settings_of
refused None old new end result none h e = tt
refused (Some folder) old new (Refused reason) result none h e = rw (e, rw none at h) refl
refused (Some folder) old new FileFault result none h e = rw e tt
refused (Some folder) old new NoMemory result none h e = rw e tt

-- what was said last of each key, from nothing on
same_said : (items : List Item) (old new : Reading) → ((key : Key) → said_of old key ≡ None) → ReadOn items old new
    → said_of new ≡ said_in items
same_said items old new nothing h =
    λ i key. (h.told key ∙ ap (λ before. last_said (key_name key) before items) (nothing key)) i

settles : (items : List Item) (old new : Reading) (result : Result (List ℤ) ConfigEnd) → old.includes ≡ 0
    → ((key : Key) → said_of old key ≡ None) → ReadOn items old new → SettleGives (said_of new) result
    → ConfigGives (settings_of items) result
unfolding settings_of
settles items old new (Ok values) none nothing h k =
    rw (rw none at h.faultless) (sym (ap settled (same_said items old new nothing h)) ∙ k)
settles items old new (Err (Refused reason)) none nothing h k =
    rw (rw none at h.faultless) (sym (ap settled (same_said items old new nothing h)) ∙ k)
settles items old new (Err FileFault) none nothing h k = tt
settles items old new (Err NoMemory) none nothing h k = tt

-- all was read
pub settled_over : (contents : Option Folder) (old new : Reading) (result : Result (List ℤ) ConfigEnd)
    → old.includes ≡ 0 → ((key : Key) → said_of old key ≡ None)
    → IfSome contents (λ folder. ReadOn (config_items (look_in folder)) old new)
    → SettleGives (said_of new) result → IfSome contents (λ folder. ConfigGives (effective (look_in folder)) result)
settled_over None old new result none nothing h k = tt
settled_over (Some folder) old new result none nothing h k =
    settles (config_items (look_in folder)) old new result none nothing h k
