-- Pieces at the front of bytes, one after the other.
use Rattle.plan_num.proofs.Common.{◌≡◌, ℕ, ◌<◌, ◌+◌, List, ◌++◌, length, drop, get_or, flat_map}
use Rattle.plan_num.proofs.Common.{arith, append_assoc, Option, Some, None, IfSome, IfNone}
use Rattle.plan_num.proofs.Common.{MatchOption, append_cancel_left}
use Rattle.std.proofs.Math.Seq.{drop-cons}

module _ {X : Type 0} (f : X → List ℕ) (xs : List X) (i : ℕ) (d : X) (inside : i < length xs) where
  -- the pieces from one on
  pieces_at : flat_map f (drop i xs) ≡ f (get_or xs i d) ++ flat_map f (drop (i + 1) xs)
  pieces_at = grind (arith, flat_map, drop-cons, get_or)

  -- what stands behind the pieces behind one stands behind those from it on, and the other way round
  pub passed : (rest more behind : List ℕ) → rest ≡ f (get_or xs i d) ++ more
      → (more ≡ flat_map f (drop (i + 1) xs) ++ behind → rest ≡ flat_map f (drop i xs) ++ behind)
      × (rest ≡ flat_map f (drop i xs) ++ behind → more ≡ flat_map f (drop (i + 1) xs) ++ behind)
  passed rest more behind split =
      grind (arith, get_or, flat_map, pieces_at, append_assoc, append_cancel_left)

-- what holds where something is found, and where nothing is
pub if_some : {X : Type 0} (found : Option X) (none : Type 0) (some : X → Type 0)
    → MatchOption found none some → IfSome found some
if_some None none some told = tt
if_some (Some x) none some told = told

pub if_none : {X : Type 0} (found : Option X) (none : Type 0) (some : X → Type 0)
    → MatchOption found none some → IfNone found none
if_none None none some told = told
if_none (Some x) none some told = tt
