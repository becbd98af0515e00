-- Of all lists of choices the first that is found passes, and comes no later than any other that does.
use Rattle.plan_num.proofs.Common.{◌≡◌, ℕ, zero, suc, ◌⊎◌, inl, inr, nat_le, Bool, true, false}
use Rattle.plan_num.proofs.Common.{cond, List, [], ◌∷◌, map, find, Option, Some, None, option_map}
use Rattle.plan_num.proofs.Common.{refl, ap, sym, ◌∙◌, subst, arith, AllByRecursion, option_or}
use Rattle.plan_num.proofs.Common.{leb-true, leb-false, find-append, none-some, same_Some}
use Rattle.vehicle_model.specs.Plans.{all_lists}
use Rattle.link_plans.proofs.Common.{ComesNoLater, AreNoLater}
use Rattle.vehicle_flow.proofs.FirstOfLists.{IsIn, AreChoices, AreRising, behind, find_mapped, later_found}

-- ---- the first that is found

module _ (rests : List (List (Option ℕ))) (P : List (Option ℕ) → Bool) where
  -- a part that finds nothing leaves what is found to the others
  none_each : (choices : List (Option ℕ)) → find P (behind rests P choices) ≡ None → (c : Option ℕ)
      → IsIn choices c → find (λ rest. P (c ∷ rest)) rests ≡ None
  none_each [] none c within = elim within [ ]
  none_each (b ∷ choices) none c within =
      split (find (λ rest. P (b ∷ rest)) rests) refl within (none_each choices)
    where
      whole : (rest : List (Option ℕ)) → find (λ rest. P (b ∷ rest)) rests ≡ Some rest
          → find P (behind rests P (b ∷ choices)) ≡ Some (b ∷ rest)
      whole rest e = find-append P (map (λ rest. b ∷ rest) rests) (behind rests P choices)
          ∙ ap (λ first. option_or first (find P (behind rests P choices)))
          (find_mapped P (λ rest. b ∷ rest) rests ∙ ap (option_map (λ rest. b ∷ rest)) e)

      split : (found : Option (List (Option ℕ))) → find (λ rest. P (b ∷ rest)) rests ≡ found
          → IsIn (b ∷ choices) c
          → (find P (behind rests P choices) ≡ None → (d : Option ℕ) → IsIn choices d
          → find (λ rest. P (d ∷ rest)) rests ≡ None)
          → find (λ rest. P (c ∷ rest)) rests ≡ None
      split (Some rest) e at later = absurd (none-some (b ∷ rest) (sym none ∙ whole rest e))
      split None e (inl same) later = subst (λ d. find (λ rest. P (d ∷ rest)) rests ≡ None) same e
      split None e (inr more) later = later (sym (later_found rests P b choices e) ∙ none) c more

pub none_passes : (lists : List (List (Option ℕ))) (P : List (Option ℕ) → Bool)
    → find P (all_lists lists) ≡ None → (other : List (Option ℕ)) → AreChoices lists other
    → P other ≡ true → ⊥
unfolding all_lists
none_passes [] P none [] are passes =
    none-some [] (sym none ∙ ap (λ b. cond b (Some []) None) passes)
none_passes [] P none (x ∷ other) are passes = elim are [ ]
none_passes (choices ∷ more) P none [] are passes = elim are [ ]
none_passes (choices ∷ more) P none (c ∷ other) are passes =
    none_passes more (λ rest. P (c ∷ rest)) (none_each (all_lists more) P choices none c are.0)
    other are.1 passes

-- one that is found begins with a choice, and no later one than another one that passes
record BeginsFirst (rests : List (List (Option ℕ))) (P : List (Option ℕ) → Bool)
    (plan : List (Option ℕ)) (c : Option ℕ) : Type 0 where
  b : Option ℕ
  rest : List (Option ℕ)
  is : plan ≡ b ∷ rest
  found : find (λ some. P (b ∷ some)) rests ≡ Some rest
  order : (b ≡ c) ⊎ (ComesNoLater c b → ⊥)

module _ (rests : List (List (Option ℕ))) (P : List (Option ℕ) → Bool) (plan : List (Option ℕ)) (c : Option ℕ)
    (some : find (λ rest. P (c ∷ rest)) rests ≡ None → ⊥) where
  begins_first : (choices : List (Option ℕ)) → AreRising choices → IsIn choices c
      → find P (behind rests P choices) ≡ Some plan → BeginsFirst rests P plan c
  begins_first [] rising within found = elim within [ ]
  begins_first (b ∷ choices) rising within found =
      split (find (λ rest. P (b ∷ rest)) rests) refl within (begins_first choices rising.1)
    where
      split : (first : Option (List (Option ℕ))) → find (λ rest. P (b ∷ rest)) rests ≡ first
          → IsIn (b ∷ choices) c
          → (IsIn choices c → find P (behind rests P choices) ≡ Some plan → BeginsFirst rests P plan c)
          → BeginsFirst rests P plan c
      split (Some rest) e at later =
          grind (arith, same_Some, find-append, behind, find_mapped, option_map)
      split None e (inl same) later =
          absurd (some (subst (λ d. find (λ rest. P (d ∷ rest)) rests ≡ None) same e))
      split None e (inr more) later = later more (sym (later_found rests P b choices e) ∙ found)

itself : (c : Option ℕ) → ComesNoLater c c
itself None = tt
itself (Some i) = omega arith

either_way : (b c : Option ℕ) → (ComesNoLater c b → ⊥) → ComesNoLater b c
either_way None None not_later = tt
either_way (Some i) None not_later = tt
either_way None (Some j) not_later = absurd (not_later tt)
either_way (Some i) (Some j) not_later = grind (arith, nat_le, leb-true, leb-false)

abbrev head_of : List (Option ℕ) → Option ℕ
head_of [] = None
head_of (x ∷ xs) = x

abbrev tail_of : List (Option ℕ) → List (Option ℕ)
tail_of [] = []
tail_of (x ∷ xs) = xs

both_no_later : (b c : Option ℕ) (rest other : List (Option ℕ)) → (b ≡ c) ⊎ (ComesNoLater c b → ⊥)
    → (b ≡ c → AreNoLater rest other) → AreNoLater (b ∷ rest) (c ∷ other)
both_no_later b c rest other (inl same) later zero within e = subst (ComesNoLater b) same (itself b)
both_no_later b c rest other (inr before) later zero within e = either_way b c before
both_no_later b c rest other order later (suc i) within e =
    later (ap head_of e) i (omega (arith, within)) (ap tail_of e)

-- what is found comes no later than any that passes
pub found_no_later : (lists : List (List (Option ℕ))) (P : List (Option ℕ) → Bool)
    (plan : List (Option ℕ)) → find P (all_lists lists) ≡ Some plan → AllByRecursion AreRising lists
    → (other : List (Option ℕ)) → AreChoices lists other → P other ≡ true → AreNoLater plan other
unfolding all_lists
found_no_later [] P plan found rising [] are passes = grind arith
found_no_later [] P plan found rising (x ∷ other) are passes = elim are [ ]
found_no_later (choices ∷ more) P plan found rising [] are passes = elim are [ ]
found_no_later (choices ∷ more) P plan found rising (c ∷ other) are passes =
    let first = begins_first (all_lists more) P plan c
    (λ none. none_passes more (λ rest. P (c ∷ rest)) none other are.1 passes)
    choices rising.0 are.0 found in
    subst (λ some. AreNoLater some (c ∷ other)) (sym first.is)
    (both_no_later first.b c first.rest other first.order
    (λ same. found_no_later more (λ rest. P (first.b ∷ rest)) first.rest first.found rising.1 other are.1
    (subst (λ d. P (d ∷ other) ≡ true) (sym same) passes)))

-- it is one of all, and passes
pub found_holds : {X : Type 0} (Q : X → Type 0) (P : X → Bool) (xs : List X) → AllByRecursion Q xs
    → (x : X) → find P xs ≡ Some x → Q x × (P x ≡ true)
found_holds Q P [] all x found = absurd (none-some x found)
found_holds {X} Q P (y ∷ xs) all x found = split (P y) refl found (found_holds Q P xs all.1 x)
  where
    split : (b : Bool) → P y ≡ b → cond b (Some y) (find P xs) ≡ Some x
        → (find P xs ≡ Some x → Q x × (P x ≡ true)) → Q x × (P x ≡ true)
    split true is e later = let same = same_Some y x e in
        (subst Q same all.0, subst (λ z. P z ≡ true) same is)
    split false is e later = later e
