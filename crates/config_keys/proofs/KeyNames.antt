-- Keys by their names.
use Rattle.plan_num.proofs.Common.{◌≡◌, ℕ, zero, suc, ◌<◌, Bool, true, false, cond, eqb, List, []}
use Rattle.plan_num.proofs.Common.{◌∷◌, length, get_or, Option, Some, None, refl, arith, find}
use Rattle.plan_num.proofs.Common.{bytes_eq-Decides}
use Rattle.giv_files.specs.declared.key.Key.{Key}
use Rattle.giv_files.proofs.Common.{all_keys, key_place, key_name, key_there}
use Rattle.config_keys.specs.ReadSoFar.{is_named, key_named}

-- a test that fails leads on
not_first : {X : Type 0} (t : Bool) (x : X) (rest : Option X) → cond t (Some x) rest ≡ None → (t ≡ false)
    × (rest ≡ None)
not_first true x rest e = cc
not_first false x rest e = (refl, e)

-- where none is found each fails
pub find_none : {X : Type 0} (p : X → Bool) (xs : List X) (k : ℕ) (d : X) → find p xs ≡ None → k < length xs
    → p (get_or xs k d) ≡ false
find_none p [] k d e h = absurd (omega arith)
find_none p (x ∷ xs) zero d e h = (not_first (p x) x (find p xs) e).0
find_none p (x ∷ xs) (suc k) d e h = find_none p xs k d (not_first (p x) x (find p xs) e).1 (omega arith)

first_or_rest : {X : Type 0} (p : X → Bool) (x found : X) (rest : Option X) (t : Bool) → p x ≡ t
    → cond t (Some x) rest ≡ Some found → (rest ≡ Some found → p found ≡ true) → p found ≡ true
first_or_rest p x found rest true e f g = let same : x ≡ found = cc in rw same at e
first_or_rest p x found rest false e f g = g f

-- what is found passes
pub find_passes : {X : Type 0} (p : X → Bool) (xs : List X) (found : X) → find p xs ≡ Some found → p found ≡ true
find_passes p [] found e = cc
find_passes p (x ∷ xs) found e = first_or_rest p x found (find p xs) (p x) refl e (find_passes p xs found)

-- a name that no key has
pub unnamed : (name : List ℕ) (k : Key) → key_named name ≡ None → is_named name k ≡ false
unnamed name k e =
    let there = key_there k k in
    rw there.0 at (find_none (is_named name) all_keys (key_place k) k e there.1)

same_test : (name : List ℕ) (found k : Key) (t u : Bool) → is_named name k ≡ t
    → eqb (key_place found) (key_place k) ≡ u → name ≡ key_name found → t ≡ u
same_test name found k true true e f g = refl
same_test name found k false false e f g = refl
same_test name found k true false e f g = grind arith
same_test name found k false true e f g = grind arith

-- a name is that of the key that is found, and of no other
pub named : (name : List ℕ) (found k : Key) → key_named name ≡ Some found
    → is_named name k ≡ eqb (key_place found) (key_place k)
named name found k e =
    same_test name found k _ _ refl refl
    ((bytes_eq-Decides name (key_name found)).0 (find_passes (is_named name) all_keys found e))
