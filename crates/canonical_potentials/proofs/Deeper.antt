-- A walk that goes on over an arc, and what it leaves of the numbers of nodes.
use Rattle.plan_num.proofs.Common.{◌≡◌, ℕ, ℤ, zero, suc, pos, neg_ℤ, ◌+◌, ◌<◌, ◌≤◌, ◌+ℤ◌, ◌-ℤ◌}
use Rattle.plan_num.proofs.Common.{◌≤ℤ◌, ◌||◌, Bool, true, List, [], ◌∷◌, length, sum, get_or}
use Rattle.plan_num.proofs.Common.{slice_set, Option, Some, None, option_map, option_and_then, refl}
use Rattle.plan_num.proofs.Common.{ap, sym, ◌∙◌, subst, arith, get_or-set_same, get_or-set_other}
use Rattle.plan_num.proofs.Common.{false≢true, or_parts, ints, length-set, sum_by-cons, none-some}
use Rattle.plan_num.proofs.Common.{same_Some}
use Rattle.link_plans.proofs.Common.{Links, by_number}
use Rattle.canonical_potentials.specs.Drops.{DropParts, drop_at, AreFound, IsStep}
use Rattle.canonical_potentials.specs.Residual.{Node, root, left, right, arc, walk_cost}

-- the cost of a walk with one arc more
pub joined : (cost_of_arc cost_before : Option ℤ) (more rest : ℤ) → cost_of_arc ≡ Some more
    → cost_before ≡ Some rest
    → option_and_then (λ cost. option_map (λ before. before +ℤ cost) cost_before) cost_of_arc
    ≡ Some (rest +ℤ more)
joined cost_of_arc cost_before more rest over before = rw (over, before) refl

-- a sum with one number that is another one now
sum_set : (numbers : List ℕ) (i number : ℕ) → i < length numbers
    → sum (slice_set numbers i number) + get_or numbers i 0 ≡ sum numbers + number
sum_set [] i number within = absurd (omega (arith, within))
sum_set (first ∷ numbers) zero number within =
    omega (arith, sum_by-cons (λ n. n) first numbers, sum_by-cons (λ n. n) number numbers)
sum_set (first ∷ numbers) (suc i) number within =
    let rest : sum (slice_set numbers i number) + get_or numbers i 0 ≡ sum numbers + number =
    sum_set numbers i number (omega (arith, within)) in
    omega (arith, sum_by-cons (λ n. n) first numbers, sum_by-cons (λ n. n) first (slice_set numbers i number), rest)

-- one step after another
pub two_steps : (links : Links) (plan : List (Option ℕ)) (one two three : DropParts) (a b both : Bool)
    → both ≡ (a || b) → IsStep links plan one two a → IsStep links plan two three b → IsStep links plan one three both
two_steps links plan one two three a b both is first second = grind (arith, or_parts)

module _ (links : Links) (plan : List (Option ℕ)) (drops : DropParts) (from : Node) (cost : ℤ) (number : ℕ)
    (further : pos number ≡ (pos (drop_at drops from) -ℤ cost)) where
  -- the walk to the node that the arc leaves, and the arc
  goes_on : AreFound links plan drops → (to : Node) → arc links plan from to ≡ Some cost
      → (walk : List Node) × (walk_cost links plan to walk ≡ Some (neg_ℤ (pos number)))
  goes_on found to over =
      let before = found from in
      let same : (neg_ℤ (pos (drop_at drops from)) +ℤ cost) ≡ neg_ℤ (pos number) = omega (arith, ints, further) in (
        from ∷ before.0,
        joined (arc links plan from to) (walk_cost links plan from before.0) cost _ over
            before.1 ∙ ap Some same,
      )

  pub step_root : arc links plan from root ≡ Some cost → drops.root < number
      → IsStep links plan drops (record { root = number; left = drops.left; right = drops.right }) true
  step_root over less = record {
    over = λ are. record { left = are.left; right = are.right };
    found = λ found. found_at found;
    deeper = omega (arith, less);
    same = λ e. absurd (false≢true (sym e));
  }
    where
      found_at : AreFound links plan drops
          → AreFound links plan (record { root = number; left = drops.left; right = drops.right })
      found_at found root = goes_on found root over
      found_at found (left i) = found (left i)
      found_at found (right j) = found (right j)

  pub step_left : (i : ℕ) → i < length drops.left → arc links plan from (left i) ≡ Some cost
      → get_or drops.left i 0 < number
      → IsStep links plan drops
      (record { root = drops.root; left = slice_set drops.left i number; right = drops.right }) true
  step_left i within over less = record {
    over = λ are. record { left = length-set drops.left i number ∙ are.left; right = are.right };
    found = λ found. found_at found;
    deeper = omega (arith, less, sum_set drops.left i number within);
    same = λ e. absurd (false≢true (sym e));
  }
    where
      found_at : AreFound links plan drops
          → AreFound links plan
          (record { root = drops.root; left = slice_set drops.left i number; right = drops.right })
      found_at found root = found root
      found_at found (right j) = found (right j)
      found_at found (left k) = by_number k i
          (λ same. subst (λ at. (walk : List Node) ×
          (walk_cost links plan (left at) walk ≡ Some (neg_ℤ (pos (get_or (slice_set drops.left i number) at 0)))))
          (sym same)
          (subst (λ n. (walk : List Node) × (walk_cost links plan (left i) walk ≡ Some (neg_ℤ (pos n))))
          (sym (get_or-set_same drops.left i number 0 within)) (goes_on found (left i) over)))
          (λ apart. subst (λ n. (walk : List Node) × (walk_cost links plan (left k) walk ≡ Some (neg_ℤ (pos n))))
          (sym (get_or-set_other drops.left i k number 0 apart)) (found (left k)))

  pub step_right : (j : ℕ) → j < length drops.right → arc links plan from (right j) ≡ Some cost
      → get_or drops.right j 0 < number
      → IsStep links plan drops
      (record { root = drops.root; left = drops.left; right = slice_set drops.right j number }) true
  step_right j within over less = record {
    over = λ are. record { left = are.left; right = length-set drops.right j number ∙ are.right };
    found = λ found. found_at found;
    deeper = omega (arith, less, sum_set drops.right j number within);
    same = λ e. absurd (false≢true (sym e));
  }
    where
      found_at : AreFound links plan drops
          → AreFound links plan
          (record { root = drops.root; left = drops.left; right = slice_set drops.right j number })
      found_at found root = found root
      found_at found (left i) = found (left i)
      found_at found (right k) = by_number k j
          (λ same. subst (λ at. (walk : List Node) ×
          (walk_cost links plan (right at) walk ≡ Some
          (neg_ℤ (pos (get_or (slice_set drops.right j number) at 0)))))
          (sym same)
          (subst (λ n. (walk : List Node) × (walk_cost links plan (right j) walk ≡ Some (neg_ℤ (pos n))))
          (sym (get_or-set_same drops.right j number 0 within)) (goes_on found (right j) over)))
          (λ apart. subst (λ n. (walk : List Node) × (walk_cost links plan (right k) walk ≡ Some (neg_ℤ (pos n))))
          (sym (get_or-set_other drops.right j k number 0 apart)) (found (right k)))

-- ---- no walk goes too far

behind_arc : (cost_of_arc cost_before : Option ℤ) (before end : ℤ)
    → ((cost : ℤ) → cost_of_arc ≡ Some cost → end ≤ℤ (before +ℤ cost))
    → ((cost : ℤ) → cost_before ≡ Some cost → before ≤ℤ cost)
    → (cost : ℤ)
    → option_and_then (λ more. option_map (λ rest. rest +ℤ more) cost_before) cost_of_arc ≡ Some cost
    → end ≤ℤ cost
behind_arc None rest before end over far cost same = absurd (none-some cost same)
behind_arc (Some more) None before end over far cost same = absurd (none-some cost same)
behind_arc (Some more) (Some rest) before end over far cost same =
    let low : before ≤ℤ rest = far rest refl in
    let rise : end ≤ℤ (before +ℤ more) = over more refl in
    let told : (rest +ℤ more) ≡ cost = same_Some (rest +ℤ more) cost same in
    subst (λ x. end ≤ℤ x) told (omega (arith, ints, low, rise))

-- heights that no arc exceeds are below the costs of all walks
pub walk_bound : (links : Links) (plan : List (Option ℕ)) (height : Node → ℤ)
    → ((node : Node) → height node ≤ℤ pos 0)
    → ((from to : Node) (cost : ℤ) → arc links plan from to ≡ Some cost → height to ≤ℤ (height from +ℤ cost))
    → (end : Node) (walk : List Node) (cost : ℤ) → walk_cost links plan end walk ≡ Some cost → height end ≤ℤ cost
walk_bound links plan height low over end [] cost same =
    subst (λ x. height end ≤ℤ x) (same_Some (pos 0) cost same) (low end)
walk_bound links plan height low over end (before ∷ walk) cost same =
    behind_arc (arc links plan before end) (walk_cost links plan before walk) (height before) (height end)
    (λ more. over before end more)
    (λ rest. walk_bound links plan height low over before walk rest) cost same
