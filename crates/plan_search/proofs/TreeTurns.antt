-- What a turn of a growing tree leaves: a look, a shift and a claim together.
use Rattle.plan_num.proofs.Common.{⊤, ◌≡◌, ℕ, Option, Some, None, Result, Ok, Err, OnOk, OnErr}
use Rattle.plan_num.proofs.Common.{MatchOption, IfOk, ap, sym, ◌∙◌, subst, arith}
use Rattle.link_plans.proofs.Common.{links_in}
use Rattle.plan_search.specs.Claims.{ClaimsParts}
use Rattle.plan_search.specs.Growing.{StillCovers}
use Rattle.plan_search.specs.Trees.{TreeParts, IsLooked, AreOverOne, IsShifted, HasGrown}

-- a tree that has no end yet: it was looked from all its trips, and what was covered at first still is
pub record IsOnItsWay (first tree : TreeParts) : Type 0 where
  pub looked : IsLooked tree
  pub one : AreOverOne first tree
  pub kept : StillCovers (links_in first.links) first.potentials tree.potentials

-- a claim and a look leave all but the claims and the slacks
module _ (tree now after : TreeParts) (claims : ClaimsParts) (now_is : now ≡ record tree { claims = claims })
    (after_is : after ≡ record now { nears = after.nears }) where
  pub after_look : after ≡ record tree { claims = claims; nears = after.nears }
  after_look = after_is ∙ ap (λ (t : TreeParts). record t { nears = after.nears }) now_is

  pub look_one : AreOverOne tree after
  look_one = grind (arith, after_look)

  pub look_potentials : after.potentials ≡ tree.potentials
  look_potentials = ap (λ (t : TreeParts). t.potentials) after_look

-- a turn: the nearest place is found, the potentials are shifted, and the place is taken
module _ (before mid shifted : TreeParts) (slack : ℕ) (same : mid ≡ before) (shift : IsShifted mid slack shifted)
    (after : TreeParts) where
  pub turn_one : AreOverOne shifted after → AreOverOne before after
  turn_one one = grind arith

  pub turn_kept : after.potentials ≡ shifted.potentials
      → StillCovers (links_in before.links) before.potentials after.potentials
  turn_kept is i was = grind arith

  pub turn_more : HasGrown shifted after → HasGrown before after
  turn_more more = grind arith

-- what a look leaves, by whether it found an end
pub none_then : {X A B : Type 0} (P : X → Type 0) (result : Option X) → (A → B) → MatchOption result A P
    → MatchOption result B P
none_then P None go is = go is
none_then P (Some x) go is = is

pub if_none : {X A : Type 0} (result : Option X) → A → MatchOption result A (λ _. ⊤)
if_none None is = is
if_none (Some x) is = tt

pub ok_then : {X A B E : Type 0} (P : X → Type 0) (result : Result (Option X) E) → (A → B)
    → IfOk result (λ found. MatchOption found A P) → IfOk result (λ found. MatchOption found B P)
ok_then P (Ok found) go is = none_then P found go is
ok_then P (Err end) go is = tt

pub ok_map : {A E S T : Type 0} (result : Result A E) → (S → T) → OnOk result S → OnOk result T
ok_map (Ok value) f h = f h
ok_map (Err end) f h = tt

-- what holds of claims whether one more was made or refused
pub either_way : {A E : Type 0} (P : ClaimsParts → Type 0) (result : Result A E) (old more now : ClaimsParts)
    → OnOk result (now ≡ more) → OnErr result (now ≡ old) → P more → P old → P now
either_way P (Ok value) old more now made refused if_more if_old = subst P (sym made) if_more
either_way P (Err end) old more now made refused if_more if_old = subst P (sym refused) if_old
