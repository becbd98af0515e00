-- Links that gain less than nothing change neither which plans gain the most nor what their
-- canonical potentials are.
use Rattle.plan_num.proofs.Common.{◌≡◌, ℕ, ℤ, pos, negsuc, neg_ℤ, ◌+◌, ◌≤ℤ◌, ◌+ℤ◌, is_some, true}
use Rattle.plan_num.proofs.Common.{List, [], ◌∷◌, get_or, Option, Some, None, option_map, IfSome}
use Rattle.plan_num.proofs.Common.{option_and_then, refl, ap, sym, arith, ints, none-some}
use Rattle.link_plans.proofs.Common.{Links, AreLinks, worth, worthy, next, IsPlan, IsFirstBest}
use Rattle.link_plans.proofs.Common.{PotentialParts, AreValid, IsTight, gains_all, tight_best}
use Rattle.link_plans.proofs.Common.{worthy_links, tight_valid}
use Rattle.canonical_potentials.specs.Drops.{DropParts, AreFound, RowKept, LinkKept, NextKept}
use Rattle.canonical_potentials.specs.Drops.{TripKept, AreKept, ArePassed}
use Rattle.canonical_potentials.specs.Residual.{Node, root, left, right, arc, walk_cost}
use Rattle.canonical_potentials.specs.Rounds.{canonical}
use Rattle.canonical_potentials.proofs.PassedRows.{passed_canonical}
use Rattle.canonical_potentials.proofs.Rounds.{canonical_is, one_canonical, rounds_end}

-- what is worth something gains this, and the other way round
worth_up : (it : Option ℤ) (gain : ℤ) → option_map pos (worth it) ≡ Some gain → it ≡ Some gain
worth_up None gain e = absurd (none-some gain e)
worth_up (Some (pos number)) gain e = e
worth_up (Some (negsuc less)) gain e = absurd (none-some gain e)

worth_down : (it : Option ℤ) (number : ℕ) → it ≡ Some (pos number)
    → option_map pos (worth it) ≡ Some (pos number)
worth_down it number e = ap (λ it. option_map pos (worth it)) e

there_up : (it : Option ℤ) → is_some (option_map pos (worth it)) ≡ true → is_some it ≡ true
there_up None h = h
there_up (Some gain) h = refl

module _ (links : Links) (plan : List (Option ℕ)) where
  -- a plan of such links is a plan
  pub plan_up : IsPlan (worthy links) plan → IsPlan links plan
  plan_up is = grind (arith, there_up)

  module _ (potentials : PotentialParts) where
    pub tight_up : IsTight (worthy links) potentials plan → IsTight links potentials plan
    tight_up tight = grind (arith, worth_up)

    pub tight_down : IsTight links potentials plan → IsTight (worthy links) potentials plan
    tight_down tight = grind (arith, worth_down)

    -- a tight plan has no other links
    pub tight_plan : IsPlan links plan → IsTight links potentials plan → IsPlan (worthy links) plan
    tight_plan is tight = grind (arith, is_some, worth_down)

    covered_up : (it : Option ℤ) (most : ℕ)
        → IfSome (option_map pos (worth it)) (λ gain. gain ≤ℤ pos most)
        → IfSome it (λ gain. gain ≤ℤ pos most)
    covered_up None most h = tt
    covered_up (Some (pos number)) most h = h
    covered_up (Some (negsuc less)) most h = omega (arith, ints)

    covered_down : (it : Option ℤ) (most : ℕ) → IfSome it (λ gain. gain ≤ℤ pos most)
        → IfSome (option_map pos (worth it)) (λ gain. gain ≤ℤ pos most)
    covered_down None most h = tt
    covered_down (Some (pos number)) most h = h
    covered_down (Some (negsuc less)) most h = tt

    -- valid potentials are valid over both
    pub valid_up : IsPlan (worthy links) plan → AreValid (worthy links) plan potentials
        → AreValid links plan potentials
    valid_up is valid = grind (arith, tight_valid, covered_up, plan_up, tight_up, gains_all)

    valid_tight : IsPlan links plan → AreValid links plan potentials → IsTight links potentials plan
    valid_tight is valid = gains_all links plan plan potentials valid is (sym valid.exact)

    pub plan_down : IsPlan links plan → AreValid links plan potentials → IsPlan (worthy links) plan
    plan_down is valid = tight_plan is (valid_tight is valid)

    pub valid_down : IsPlan links plan → AreValid links plan potentials
        → AreValid (worthy links) plan potentials
    valid_down is valid = grind (
      arith,
      tight_valid,
      covered_down,
      plan_down,
      tight_down,
      valid_tight,
    )

-- the first of the plans that gain the most is the same one
pub first_up : (links : Links) (certified plan : List (Option ℕ)) (potentials : PotentialParts)
    → IsPlan (worthy links) certified → AreValid (worthy links) certified potentials
    → IsFirstBest (worthy links) plan → IsFirstBest links plan
first_up links certified plan potentials is valid chosen =
    let down = tight_best (worthy links) certified potentials valid is in
    let up = tight_best links certified potentials (valid_up links certified potentials is valid)
    (plan_up links certified is) in
    let possible = plan_up links plan chosen.best.possible in
    record {
      best = (up plan possible).1 (tight_up links plan potentials ((down plan
          chosen.best.possible).0 chosen.best));
      first = λ other best.
          let tight = (up other best.possible).0 best in
          let fits = tight_plan links other potentials best.possible tight in
          chosen.first other ((down other fits).1 (tight_down links other potentials tight));
    }

-- ---- canonical potentials

module _ (links : Links) (plan : List (Option ℕ)) where
  -- an arc over such links is one over all
  arc_up : (from to : Node) (cost : ℤ) → arc (worthy links) plan from to ≡ Some cost
      → arc links plan from to ≡ Some cost
  arc_up root root cost e = e
  arc_up root (left i) cost e = e
  arc_up root (right j) cost e = e
  arc_up (left i) root cost e = e
  arc_up (left i) (left k) cost e = e
  arc_up (left i) (right j) cost e = grind (arith, option_map, neg_ℤ, none-some)
  arc_up (right j) root cost e = e
  arc_up (right j) (left i) cost e = grind (arith, option_map, worth_up)
  arc_up (right j) (right k) cost e = e

  -- and so is a walk
  walk_up : (end : Node) (walk : List Node) (cost : ℤ)
      → walk_cost (worthy links) plan end walk ≡ Some cost
      → walk_cost links plan end walk ≡ Some cost
  walk_up end [] cost e = e
  walk_up end (before ∷ more) cost e =
      by (arc (worthy links) plan before end) refl (walk_cost (worthy links) plan before more)
      refl e
      (walk_up before more)
    where
      by : (over : Option ℤ) → arc (worthy links) plan before end ≡ over
          → (rest : Option ℤ) → walk_cost (worthy links) plan before more ≡ rest
          → option_and_then (λ cost. option_map (λ rest. rest +ℤ cost) rest) over ≡ Some cost
          → ((cost : ℤ) → walk_cost (worthy links) plan before more ≡ Some cost
          → walk_cost links plan before more ≡ Some cost)
          → walk_cost links plan end (before ∷ more) ≡ Some cost
      by None o rest r e up = absurd (none-some cost e)
      by (Some one) o None r e up = absurd (none-some cost e)
      by (Some one) o (Some rest) r e up = rw (arc_up before end one o, up rest r) e

  found_up : (drops : DropParts) → AreFound (worthy links) plan drops → AreFound links plan drops
  found_up drops found node =
      let walk = found node in (walk.0, walk_up node walk.0 _ walk.1)

  module _ (drops : DropParts) (potentials : PotentialParts) (tight : IsTight links potentials
      plan) where
    row_up : (i : ℕ) → TripKept (worthy links) plan drops i → RowKept links drops i
    row_up i kept j gain within e = grind (arith, get_or, option_map, ints)

    link_up : (i j : ℕ) → next plan i ≡ Some j → LinkKept (worthy links) drops i j
        → LinkKept links drops i j
    link_up i j e kept = grind (arith, get_or, worth_down)

    next_up : (i : ℕ) (at_i : Option ℕ) → next plan i ≡ at_i → NextKept (worthy links) drops i at_i
        → NextKept links drops i at_i
    next_up i None e kept = kept
    next_up i (Some j) e kept = (kept.0, link_up i j e kept.1)

    passed_up : AreKept (worthy links) plan drops → ArePassed links plan drops
    passed_up kept i within = record {
      row = row_up i (kept i within);
      next_kept = next_up i (next plan i) refl (kept i within).next_kept;
      root_kept = (kept i within).root_kept;
    }

-- the canonical potentials are the same
pub canonical_same : (links : Links) → AreLinks links
    → (plan : List (Option ℕ)) (potentials : PotentialParts)
    → IsPlan links plan → AreValid links plan potentials
    → canonical (worthy links) plan ≡ canonical links plan
unfolding canonical
canonical_same links sound plan potentials is valid =
    let all = rounds_end (worthy links) (worthy_links links sound) plan potentials
    (plan_down links plan potentials is valid) (valid_down links plan potentials is valid) in
    let tight = gains_all links plan plan potentials valid is (sym valid.exact) in
    one_canonical links plan (canonical (worthy links) plan) (canonical links plan)
    (passed_canonical links sound plan _
    (record {
      sound = sound;
      plan_is = is;
      certified = (potentials, valid);
      over = all.known.over;
      found = found_up links plan _ all.known.found;
    })
    (passed_up links plan _ potentials tight all.kept))
    (canonical_is links sound plan potentials is valid)
