-- Reading goes on over items.
use Rattle.plan_num.proofs.Common.{◌≡◌, ℕ, ◌+◌, Bool, true, false, cond, List, [], ◌∷◌, ◌++◌}
use Rattle.plan_num.proofs.Common.{Option, Some, None, refl, sym, ◌∙◌, arith, ltb, zero-add}
use Rattle.plan_num.proofs.Common.{add-zero, Result, Ok, Err, bytes_eq}
use Rattle.config_keys.specs.declared.config_fault.ConfigFault.{ConfigFault}
use Rattle.config_keys.specs.declared.config_fault.ConfigFault.TheVariants as fault
use Rattle.config_keys.specs.declared.config_end.ConfigEnd.{ConfigEnd}
use Rattle.config_keys.specs.declared.config_end.ConfigEnd.TheVariants.{Refused, FileFault, NoMemory}
use Rattle.config_keys.specs.declared.reading.Reading.{Reading}
use Rattle.config_keys.specs.Items.{Item, Setting, Include, Fault, first_fault, include_count, last_said}
use Rattle.config_keys.specs.ReadSoFar.{ReadOn, ReadGives}

further : (count : ℕ) (last : ConfigFault) (xs ys : List Item) (t : Bool)
    → (first_fault (count + 1) xs ≡ None
    → first_fault (count + 1) (xs ++ ys) ≡ first_fault (count + 1 + include_count xs) ys)
    → cond t (first_fault (count + 1) xs) (Some last) ≡ None
    → cond t (first_fault (count + 1) (xs ++ ys)) (Some last) ≡ first_fault (count + (include_count xs + 1)) ys
further count last xs ys true f e = grind arith
further count last xs ys false f e = cc

-- where there was no fault, faults are sought further
pub first_fault-further : (count : ℕ) (xs ys : List Item) → first_fault count xs ≡ None
    → first_fault count (xs ++ ys) ≡ first_fault (count + include_count xs) ys
unfolding first_fault include_count
first_fault-further count [] ys e = rw add-zero refl
first_fault-further count (Setting key value ∷ xs) ys e = first_fault-further count xs ys e
first_fault-further count (Include file row optional path ∷ xs) ys e =
    further count (fault.TooManyIncludes file row) xs ys (ltb count 1000) (first_fault-further (count + 1) xs ys) e
first_fault-further count (Fault reason ∷ xs) ys e = cc

stays : (all some : Option ConfigFault) (last reason : ConfigFault) (t : Bool)
    → (some ≡ Some reason → all ≡ Some reason) → cond t some (Some last) ≡ Some reason
    → cond t all (Some last) ≡ Some reason
stays all some last reason true f e = f e
stays all some last reason false f e = e

-- a fault that was found stays the first
pub first_fault-stays : (count : ℕ) (xs ys : List Item) (reason : ConfigFault) → first_fault count xs ≡ Some reason
    → first_fault count (xs ++ ys) ≡ Some reason
unfolding first_fault
first_fault-stays count [] ys reason e = cc
first_fault-stays count (Setting key value ∷ xs) ys reason e = first_fault-stays count xs ys reason e
first_fault-stays count (Include file row optional path ∷ xs) ys reason e =
    stays _ _ (fault.TooManyIncludes file row) reason (ltb count 1000) (first_fault-stays (count + 1) xs ys reason) e
first_fault-stays count (Fault found ∷ xs) ys reason e = e

pub include_count-append : (xs ys : List Item) → include_count (xs ++ ys) ≡ include_count xs + include_count ys
unfolding include_count
include_count-append [] ys = sym (zero-add (include_count ys))
include_count-append (Setting key value ∷ xs) ys = include_count-append xs ys
include_count-append (Include file row optional path ∷ xs) ys = omega (arith, include_count-append xs ys)
include_count-append (Fault reason ∷ xs) ys = include_count-append xs ys

pub last_said-append : (name : List ℕ) (before : Option (List ℕ)) (xs ys : List Item)
    → last_said name before (xs ++ ys) ≡ last_said name (last_said name before xs) ys
unfolding last_said
last_said-append name before [] ys = refl
last_said-append name before (Setting key value ∷ xs) ys =
    last_said-append name (cond (bytes_eq key name) (Some value) before) xs ys
last_said-append name before (Include file row optional path ∷ xs) ys = last_said-append name before xs ys
last_said-append name before (Fault reason ∷ xs) ys = last_said-append name before xs ys

-- over no items reading has gone on
pub read_none : (reading : Reading) → ReadOn [] reading reading
unfolding first_fault include_count last_said
read_none reading = record { faultless = refl; counted = omega arith; told = λ key. refl }

-- reading goes on over items, and then over more
pub read_more : (xs ys : List Item) (old mid new : Reading) → ReadOn xs old mid → ReadOn ys mid new
    → ReadOn (xs ++ ys) old new
read_more xs ys old mid new h k =
    grind (arith, first_fault-further, include_count-append, last_said-append)

-- and what it gives then is what it gives over all of them
pub gives_more : (xs ys : List Item) (old mid new : Reading) (result : Result (Unit {0}) ConfigEnd)
    → ReadOn xs old mid → ReadGives ys mid new result → ReadGives (xs ++ ys) old new result
gives_more xs ys old mid new (Ok done) h k = read_more xs ys old mid new h k
gives_more xs ys old mid new (Err (Refused reason)) h k =
    first_fault-further old.includes xs ys h.faultless ∙ rw (← h.counted) k
gives_more xs ys old mid new (Err FileFault) h k = tt
gives_more xs ys old mid new (Err NoMemory) h k = tt
