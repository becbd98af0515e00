-- Lists of items that are read alike.
use Rattle.plan_num.proofs.Common.{arith, ◌≡◌, ◌≢◌, ℕ, ◌+◌, List, ◌∷◌, ◌++◌, Option, Some, None}
use Rattle.plan_num.proofs.Common.{Result, Ok, Err, refl, sym, ◌∙◌}
use Rattle.config_keys.specs.declared.config_fault.ConfigFault.{ConfigFault}
use Rattle.config_keys.specs.declared.config_end.ConfigEnd.{ConfigEnd}
use Rattle.config_keys.specs.declared.config_end.ConfigEnd.TheVariants.{Refused, FileFault, NoMemory}
use Rattle.config_keys.specs.declared.reading.Reading.{Reading}
use Rattle.config_keys.specs.Items.{Item, Fault, first_fault, include_count}
use Rattle.config_keys.specs.ReadSoFar.{ReadGives}
use Rattle.config_keys.specs.SettingsFiles.{Alike}
use Rattle.config_keys.proofs.Steps.{first_fault-further, first_fault-stays, include_count-append, last_said-append}

pub alike_refl : (xs : List Item) → Alike xs xs
alike_refl xs = record { same = λ count. refl; counts = λ count none. refl; says = λ count none key before. refl }

pub alike_then : (xs ys zs : List Item) → Alike xs ys → Alike ys zs → Alike xs zs
alike_then xs ys zs h k = grind arith

-- what no fault is in has no fault at its start
front_none : (count : ℕ) (xs ys : List Item) (front : Option ConfigFault) → first_fault count xs ≡ front
    → first_fault count (xs ++ ys) ≡ None → first_fault count xs ≡ None
front_none count xs ys None e none = e
front_none count xs ys (Some reason) e none = grind (arith, first_fault-stays)

-- and none after that
pub back_none : (count : ℕ) (xs ys : List Item) → first_fault count (xs ++ ys) ≡ None
    → first_fault (count + include_count xs) ys ≡ None
back_none count xs ys none = sym (first_fault-further count xs ys (front_none count xs ys _ refl none)) ∙ none

-- behind the same items
pub alike_behind : (xs ys zs : List Item) → Alike ys zs → Alike (xs ++ ys) (xs ++ zs)
alike_behind xs ys zs h = grind (
  arith,
  include_count-append,
  back_none,
  last_said-append,
  first_fault-further,
  first_fault-stays,
)

-- what comes after a fault is not read
pub alike_fault : (reason : ConfigFault) (rest more : List Item) → Alike (Fault reason ∷ rest) (Fault reason ∷ more)
unfolding first_fault
alike_fault reason rest more = grind arith

-- items in which a fault is found, wherever reading stands
pub alike_stopped : (xs ys : List Item) → ((count : ℕ) → first_fault count xs ≢ None) → Alike (xs ++ ys) xs
alike_stopped xs ys stopped = grind (arith, front_none, first_fault-stays)

-- what reading one of them gives, reading the other gives
pub gives_alike : (xs ys : List Item) (old new : Reading) (result : Result (Unit {0}) ConfigEnd) → Alike xs ys
    → ReadGives ys old new result → ReadGives xs old new result
gives_alike xs ys old new (Ok done) h k = grind arith
gives_alike xs ys old new (Err (Refused reason)) h k = h.same old.includes ∙ k
gives_alike xs ys old new (Err FileFault) h k = tt
gives_alike xs ys old new (Err NoMemory) h k = tt
