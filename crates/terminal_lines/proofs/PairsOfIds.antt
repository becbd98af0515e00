-- The pairs of terminals: each of them once, and not more than 190.
use Rattle.plan_num.proofs.Common.{◌≡◌, ℕ, zero, suc, ◌+◌, ◌≤◌, ◌<ℤ◌, true, false, int_lt, [], ◌∷◌}
use Rattle.plan_num.proofs.Common.{◌++◌, length, map, filter, All, refl, arith, append_assoc}
use Rattle.plan_num.proofs.Common.{AllByRecursion, flat_map, int_cmp, ordering_reverse}
use Rattle.plan_num.proofs.Common.{int_cmp_total, length-append, length-map, All-append, All-cons}
use Rattle.plan_num.proofs.Common.{All-head, All-nil, All-tail, filter-append}
use Rattle.std.proofs.Common.{ℤ}
use Rattle.std.proofs.Common.{List}
use Rattle.std.specs.List.Sorted.{IsStrictlySortedBy}
use Rattle.std.specs.declared.cmp.Ordering.{Ordering}
use Rattle.std.specs.declared.cmp.Ordering.TheVariants.{Less}
use Rattle.walks.proofs.Common.{rising, rising_rises}
use Rattle.terminal_lines.specs.TerminalPaths.{pairs_of}

-- ---- ids in order

less_tests : (x y : ℤ) → int_cmp x y ≡ Less → int_lt x y ≡ true
less_tests x y less = grind (arith, int_lt)

not_less_tests : (x y : ℤ) (o : Ordering) → int_cmp x y ≡ ordering_reverse o → o ≡ Less
    → int_lt x y ≡ false
not_less_tests x y o is less = grind (arith, int_lt)

above_tests : (x y : ℤ) → int_cmp x y ≡ Less → int_lt y x ≡ false
above_tests x y less = not_less_tests y x (int_cmp x y) (int_cmp_total.antisymm y x) less

own_tests : (x : ℤ) → int_lt x x ≡ false
own_tests x = grind arith

pub less_is : (x y : ℤ) → int_lt x y ≡ true → x <ℤ y
less_is x y is = grind arith

pub not_own : (x y : ℤ) → int_lt x y ≡ true → x ≡ y → ⊥
not_own x y is same = grind arith

-- ---- each id with those after it

unfoldable pub pairs_after : List ℤ → List (ℤ × ℤ)
pairs_after [] = []
pairs_after (id ∷ ids) = map (λ to. (id, to)) ids ++ pairs_after ids

-- ids that an id is above
below_none : (id : ℤ) (done : List ℤ) → AllByRecursion (λ before. int_cmp before id ≡ Less) done
    → filter (int_lt id) done ≡ []
below_none id [] below = refl
below_none id (before ∷ done) below = grind (arith, int_lt, above_tests, below_none id done below.1)

above_all : (id : ℤ) (rest : List ℤ) → AllByRecursion (λ other. int_cmp id other ≡ Less) rest
    → filter (int_lt id) rest ≡ rest
above_all id [] above = refl
above_all id (other ∷ rest) above = grind (arith, int_lt, less_tests, above_all id rest above.1)

after_it : (done : List ℤ) (id : ℤ) (rest : List ℤ)
    → AllByRecursion (λ before. int_cmp before id ≡ Less) done
    → AllByRecursion (λ other. int_cmp id other ≡ Less) rest
    → filter (int_lt id) (done ++ id ∷ rest) ≡ rest
after_it done id rest below above =
    grind (arith, filter-append, int_lt, below_none, own_tests, above_all)

-- those that are done are below what is left
AreBelow : List ℤ → List ℤ → Type 0
AreBelow done [] = Unit {0}
AreBelow done (id ∷ rest) = AllByRecursion (λ before. int_cmp before id ≡ Less) done × AreBelow done
    rest

one_below : (done : List ℤ) (id next : ℤ) → AllByRecursion (λ before. int_cmp before next ≡ Less)
    done
    → int_cmp id next ≡ Less → AllByRecursion (λ before. int_cmp before next ≡ Less)
    (done ++ id ∷ [])
one_below [] id next below less = (less, tt)
one_below (before ∷ done) id next below less = (below.0, one_below done id next below.1 less)

below_more : (done : List ℤ) (id : ℤ) (rest : List ℤ) → AreBelow done rest
    → AllByRecursion (λ other. int_cmp id other ≡ Less) rest → AreBelow (done ++ id ∷ []) rest
unfolding AreBelow
below_more done id [] below above = tt
below_more done id (next ∷ rest) below above =
    (one_below done id next below.0 above.0, below_more done id rest below.1 above.1)

pairs_left : (done rest : List ℤ) → AreBelow done rest → IsStrictlySortedBy int_cmp rest
    → flat_map (λ from. map (λ to. (from, to)) (filter (int_lt from) (done ++ rest))) rest
    ≡ pairs_after rest
unfolding AreBelow IsStrictlySortedBy pairs_after
pairs_left done [] below rise = refl
pairs_left done (id ∷ rest) below rise =
    grind (
      arith,
      int_lt,
      after_it,
      append_assoc,
      below_more,
      pairs_left (done ++ id ∷ []) rest (below_more done id rest below.1 rise.0) rise.1,
    )

none_below : (rest : List ℤ) → AreBelow [] rest
unfolding AreBelow
none_below [] = tt
none_below (id ∷ rest) = (tt, none_below rest)

pub pairs_are : (terminals : List ℤ) → pairs_of terminals ≡ pairs_after (rising terminals)
pairs_are terminals =
    pairs_left [] (rising terminals) (none_below (rising terminals)) (rising_rises terminals)

-- ---- how many there are

count_after : ℕ → ℕ
count_after zero = 0
count_after (suc n) = n + count_after n

pairs_count : (ids : List ℤ) → length (pairs_after ids) ≡ count_after (length ids)
unfolding pairs_after count_after
pairs_count [] = refl
pairs_count (id ∷ ids) = grind (arith, length-append, length-map, pairs_count ids)

counts_rise : (n m : ℕ) → n ≤ m → count_after n ≤ count_after m
unfolding count_after
counts_rise zero m h = omega arith
counts_rise (suc n) zero h = absurd (omega (arith, h))
counts_rise (suc n) (suc m) h = omega (arith, h, counts_rise n m (omega (arith, h)))

most_pairs : count_after 20 ≡ 190
unfolding count_after
most_pairs = refl

pub few_pairs : (ids : List ℤ) → length ids ≤ 20 → length (pairs_after ids) ≤ 190
few_pairs ids few =
    omega (arith, pairs_count ids, counts_rise (length ids) 20 few, most_pairs)

-- ---- what holds of them

-- two ids of which something holds, in order
pub record AreInOrder (P : ℤ → Type 0) (pair : ℤ × ℤ) : Type 0 where
  pub from : P pair.0
  pub to : P pair.1
  pub in_order : int_lt pair.0 pair.1 ≡ true

module _ (P : ℤ → Type 0) where
  from_one : (id : ℤ) (ids : List ℤ) → P id → All P ids
      → AllByRecursion (λ other. int_cmp id other ≡ Less) ids
      → All (AreInOrder P) (map (λ to. (id, to)) ids)
  from_one id [] own all above = All-nil (AreInOrder P)
  from_one id (other ∷ ids) own all above =
      grind (
        arith,
        All-cons,
        All-head,
        less_tests,
        All-tail,
        from_one id ids own (All-tail P other ids all) above.1,
      )

  pub all_in_order : (ids : List ℤ) → IsStrictlySortedBy int_cmp ids → All P ids
      → All (AreInOrder P) (pairs_after ids)
  unfolding IsStrictlySortedBy pairs_after
  all_in_order [] rise all = All-nil (AreInOrder P)
  all_in_order (id ∷ ids) rise all =
      All-append (AreInOrder P) (map (λ to. (id, to)) ids) (pairs_after ids)
      (from_one id ids (All-head P id ids all) (All-tail P id ids all) rise.0)
      (all_in_order ids rise.1 (All-tail P id ids all))
