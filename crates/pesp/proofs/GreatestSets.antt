-- The reduced sets are the greatest ones in which no time is without a partner, and lose no
-- timetable.
use Rattle.plan_num.proofs.Common.{◌≡◌, ◌∙◌, inl, inr, ℕ, zero, suc, ◌+◌, ◌<◌, nat_eq, Bool, true}
use Rattle.plan_num.proofs.Common.{false, ◌||◌, List, [], ◌∷◌, All, Contains, filter, get_or}
use Rattle.plan_num.proofs.Common.{length, refl, ap, sym, subst, arith, list_all, list_any}
use Rattle.plan_num.proofs.Common.{and_from, and_parts, cases_lt, eq-eqb, eqb-true, false≢true}
use Rattle.plan_num.proofs.Common.{or_cases, or_left, or_right, get_or_past, All-contains}
use Rattle.plan_num.proofs.Common.{All-contains_itself, All-filter, Contains-get_or}
use Rattle.plan_num.proofs.Common.{Any-from_list_any, list_any_at, AllPass-from_list_all}
use Rattle.pesp.specs.declared.activity.PespActivity.{PespActivity}
use Rattle.pesp.specs.Timetables.{IsProblem, Problem}
use Rattle.pesp.specs.Listings.{AreDead, is_empty}
use Rattle.pesp.specs.Marks.{Tracked, sets_of}
use Rattle.pesp.specs.Revising.{Stands}
use Rattle.pesp.specs.TimeSets.{AreGreatest, AreLeft, ArePartnered, AreWithin, LosesNone}
use Rattle.pesp.specs.TimeSets.{RoundsSuffice, has_partner, has_partners}
use Rattle.pesp.specs.TimeSets.{left_to, reduced, times_left}
use Rattle.pesp.proofs.ListedTimes.{no_empty}
use Rattle.pesp.proofs.RoundsKeep.{Holds, filter_keeps, is_in, reduced_keeps}
use Rattle.pesp.proofs.ShrinkingSets.{reduced_partnered, rounded, rounds_leave}

-- ---- times of lists

contained : (x : ℕ) (xs : List ℕ) → is_in x xs ≡ true → Contains xs x
contained x xs is = grind (arith, Any-from_list_any, nat_eq, eqb-true)

found_in : (x : ℕ) (xs : List ℕ) → Contains xs x → is_in x xs ≡ true
found_in x xs there = grind (arith, list_any_at, nat_eq, eq-eqb)

-- a test that holds somewhere among some times does among more
more_any : (test : ℕ → Bool) (few many : List ℕ) → All (Contains many) few
    → list_any test few ≡ true → list_any test many ≡ true
more_any test few many all is =
    let at = Any-from_list_any test few is in
    let there = All-contains (Contains many) few at.1 all (at.0, at.2, at.3) in
    list_any_at test many there.0 at.1 there.1 (ap test there.2 ∙ at.4)

filter_same : (test : ℕ → Bool) (xs : List ℕ) → list_all test xs ≡ true → filter test xs ≡ xs
filter_same test [] all = refl
filter_same test (x ∷ xs) all =
    let parts = and_parts (test x) (list_all test xs) all in grind (
      arith,
      filter_same test xs
          parts.1,
    )

more_pass : {X : Type 0} (test other : X → Bool) → ((x : X) → test x ≡ true → other x ≡ true)
    → (xs : List X) → list_all test xs ≡ true → list_all other xs ≡ true
more_pass test other more [] all = refl
more_pass test other more (x ∷ xs) all =
    let parts = and_parts (test x) (list_all test xs) all in
    and_from (other x) _ (more x parts.0) (more_pass test other more xs parts.1)

or_more : (b c d : Bool) → (c ≡ true → d ≡ true) → (b || c) ≡ true → (b || d) ≡ true
or_more true c d more is = refl
or_more false c d more is = more is

-- ---- sets within others

within_itself : (sets : List (List ℕ)) → AreWithin sets sets
within_itself [] = tt
within_itself (set ∷ sets) = (All-contains_itself set, within_itself sets)

left_within : (few many : List (List ℕ)) → AreWithin few many → (event : ℕ)
    → All (Contains (left_to many event)) (left_to few event)
left_within [] [] h event k d inside = absurd (omega (arith, inside))
left_within [] (set ∷ many) h event k d inside = absurd h
left_within (set ∷ few) [] h event k d inside = absurd h
left_within (set ∷ few) (other ∷ many) h zero k d inside = h.0 k d inside
left_within (set ∷ few) (other ∷ many) h (suc event) k d inside =
    left_within few many h.1 event k d inside

none_within : (few many : List ℕ) → All (Contains many) few → is_empty many ≡ true
    → is_empty few ≡ true
none_within [] many all none = refl
none_within (x ∷ few) [] all none =
    let at = all 0 x (omega arith) in absurd (omega (arith, at.1))
none_within (x ∷ few) (y ∷ many) all none = grind (arith, eqb-true)

some_empty : (few many : List (List ℕ)) → AreWithin few many → list_any is_empty many ≡ true
    → list_any is_empty few ≡ true
some_empty [] [] h is = is
some_empty [] (set ∷ many) h is = absurd h
some_empty (set ∷ few) [] h is = absurd h
some_empty (set ∷ few) (other ∷ many) h is =
    elim (or_cases (is_empty other) (list_any is_empty many) is) [
      | inl here ↦ or_left (is_empty set) _ (none_within set other h.0 here)
      | inr there ↦ or_right (is_empty set) _ (some_empty few many h.1 there)
    ]

-- times that are left, by either test
left_held : (sets : List (List ℕ)) (times : List ℕ) → AreLeft sets times → Holds sets times
left_held [] [] h = tt
left_held [] (time ∷ times) h = absurd h
left_held (set ∷ sets) [] h = absurd h
left_held (set ∷ sets) (time ∷ times) h = (found_in time set h.0, left_held sets times h.1)

held_left : (sets : List (List ℕ)) (times : List ℕ) → Holds sets times → AreLeft sets times
held_left [] [] h = tt
held_left [] (time ∷ times) h = absurd h
held_left (set ∷ sets) [] h = absurd h
held_left (set ∷ sets) (time ∷ times) h = (contained time set h.0, held_left sets times h.1)

module _ (problem : Problem) where
  -- ---- partners among more times

  module _ (few many : List (List ℕ)) (within : AreWithin few many) where
    more_partner : (event time : ℕ) (activity : PespActivity)
        → has_partner problem.period few event time activity ≡ true
        → has_partner problem.period many event time activity ≡ true
    more_partner event time activity is = grind (
      arith,
      and_parts,
      and_from,
      or_more,
      more_any,
      left_within,
    )

    more_partners : (event time : ℕ) → has_partners problem few event time ≡ true
        → has_partners problem many event time ≡ true
    more_partners event time is = grind (arith, more_pass, more_partner)

  -- ---- a round

  module _ (sets : List (List ℕ)) where
    rounded_within : (n : ℕ) (left before : List (List ℕ)) → AreWithin left before
        → AreWithin (rounded problem sets n left) before
    rounded_within n [] [] h = tt
    rounded_within n [] (set ∷ before) h = absurd h
    rounded_within n (set ∷ left) [] h = absurd h
    rounded_within n (set ∷ left) (other ∷ before) h = (
      All-filter (has_partners problem sets n) (Contains other) set h.0,
      rounded_within (n + 1) left before h.1,
    )

    -- a time with partners stays
    stays_in : (n : ℕ) (set others : List ℕ) → All (Contains set) others
        → ((time : ℕ) → Contains others time → has_partners problem sets n time ≡ true)
        → All (Contains (filter (has_partners problem sets n) set)) others
    stays_in n set others within partners k d inside =
        let time = get_or others k d in
        contained time (filter (has_partners problem sets n) set)
        (filter_keeps (has_partners problem sets n) time set (found_in time set (within k d inside))
        (partners time (Contains-get_or others k d inside)))

    rounded_has : (n : ℕ) (left others : List (List ℕ)) → AreWithin others left
        → ((event time : ℕ) → Contains (left_to others event) time
        → has_partners problem sets (n + event) time ≡ true)
        → AreWithin others (rounded problem sets n left)
    rounded_has n [] [] h partners = tt
    rounded_has n [] (set ∷ others) h partners = absurd h
    rounded_has n (set ∷ left) [] h partners = absurd h
    rounded_has n (set ∷ left) (other ∷ others) h partners = (
      stays_in n set other h.0 (λ time there.
          subst (λ m. has_partners problem sets m time ≡ true) (omega arith) (partners 0 time there)),
      rounded_has (n + 1) left others h.1 (λ event time there.
          subst (λ m. has_partners problem sets m time ≡ true) (omega arith)
          (partners (suc event) time there)),
    )

    rounded_same : (n : ℕ) (left : List (List ℕ)) → ((event : ℕ) → event < length left
        → list_all (has_partners problem sets (n + event)) (left_to left event) ≡ true)
        → rounded problem sets n left ≡ left
    rounded_same n [] all = refl
    rounded_same n (set ∷ left) all =
        ap (λ set. set ∷ rounded problem sets (n + 1) left)
        (filter_same (has_partners problem sets n) set
        (subst (λ m. list_all (has_partners problem sets m) set ≡ true) (omega arith)
        (all 0 (omega arith))))
        ∙ ap (λ left. set ∷ left) (rounded_same (n + 1) left (λ event inside.
        subst (λ m. list_all (has_partners problem sets m) (left_to left event) ≡ true) (omega arith)
        (all (suc event) (omega (arith, inside)))))

  -- ---- all rounds

  module _ (sets : List (List ℕ)) where
    abbrev left : List (List ℕ)
    left = reduced problem sets

    reduced_within : AreWithin left sets
    unfolding reduced
    reduced_within = rounds_leave problem (λ left. AreWithin left sets)
        (λ left h. rounded_within left 0 left sets h) (times_left sets) sets (within_itself sets)

    all_partnered : ArePartnered problem left
    all_partnered event time there = elim (cases_lt event (length left)) [
      | inl inside ↦
          All-contains (λ time. has_partners problem left event time ≡ true) (left_to left event) time
          (AllPass-from_list_all (has_partners problem left event) (left_to left event)
          (reduced_partnered problem sets event inside)) there
      | inr past ↦ grind (arith, get_or_past)
    ]

    reduced_has : (others : List (List ℕ)) → AreWithin others sets → ArePartnered problem others
        → AreWithin others left
    unfolding reduced
    reduced_has others within partnered = rounds_leave problem (AreWithin others)
        (λ left h. rounded_has left 0 left others h (λ event time there.
        subst (λ m. has_partners problem left m time ≡ true) (omega arith)
        (more_partners others left h event time (partnered event time there)))) (times_left sets) sets
        within

    pub reduced_greatest : AreGreatest problem sets left
    reduced_greatest = grind (arith, reduced_within, all_partnered, reduced_has)

    -- greatest sets are within the reduced ones
    dead_where : list_any is_empty left ≡ true → AreDead problem sets
    dead_where empty others are = grind (arith, some_empty, reduced_has)

  pub rounds_suffice : RoundsSuffice problem
  rounds_suffice sets = rounded_same (left sets) 0 (left sets) (λ event inside.
      subst (λ m. list_all (has_partners problem (left sets) m) (left_to (left sets) event) ≡ true)
      (omega arith) (reduced_partnered problem sets event inside))

  pub reduced_loses_none : IsProblem problem → (sets : List (List ℕ))
      → LosesNone problem sets (reduced problem sets)
  reduced_loses_none sound sets times is held = grind (arith, held_left, reduced_keeps, left_held)

  -- ---- what a reduction leaves

  module _ (before after : Tracked) where
    pub stands_greatest : Stands problem before after → list_any is_empty (sets_of after.sets) ≡ false
        → AreGreatest problem (sets_of before.sets) (sets_of after.sets)
    stands_greatest (inl dead) full = absurd (false≢true (sym full ∙ dead.0))
    stands_greatest (inr same) full = subst (AreGreatest problem (sets_of before.sets)) (sym same.0)
        (reduced_greatest (sets_of before.sets))

    pub stands_dead : Stands problem before after → list_any is_empty (sets_of after.sets) ≡ true
        → AreDead problem (sets_of before.sets)
    stands_dead (inl dead) empty = dead_where (sets_of before.sets) dead.1
    stands_dead (inr same) empty = grind (arith, dead_where)

    pub stands_loses_none : IsProblem problem → Stands problem before after
        → LosesNone problem (sets_of before.sets) (sets_of after.sets)
    stands_loses_none sound (inl dead) times is held =
        let full = no_empty (left (sets_of before.sets)) times
        (reduced_keeps problem sound times is (sets_of before.sets) (left_held _ times held)) in
        absurd (false≢true (sym full ∙ dead.1))
    stands_loses_none sound (inr same) times is held = grind (arith, reduced_loses_none)
