-- A walk tells its two ends by the edges that it has: at each other stop it has an even number of
-- them.
use Rattle.plan_num.proofs.Common.{arith, ◌≡◌, ◌≢◌, ℕ, ◌<◌, Bool, true, false, not, ◌||◌, cond}
use Rattle.plan_num.proofs.Common.{nat_eq, List, [], ◌∷◌, length, get_or, All, inl, inr, ◌⊎◌, refl}
use Rattle.plan_num.proofs.Common.{ap, subst, sym, ◌∙◌, Some, AllByRecursion, cons_option, list_all}
use Rattle.plan_num.proofs.Common.{list_any, eq-eqb, eqb-true, ne_eqb, cases_Bool, All-contains}
use Rattle.plan_num.proofs.Common.{All-head, All-tail, slice_get-get_or, Any-from_list_any}
use Rattle.plan_num.proofs.Common.{AllPass-from_list_all}
use Rattle.std.specs.List.{IsDistinct}
use Rattle.std.proofs.lemmas.Bool.{or_right as or_second}
use Rattle.walks.specs.declared.edge.Edge.{Edge}
use Rattle.walks.proofs.Common.{IsEdge, IsSimple, edges_at, IsWalk, across, ends_are, no_edge}
use Rattle.walks.proofs.Common.{begins, staying_end}

-- ---- one of two, and not both

differ : Bool → Bool → Bool
differ true b = not b
differ false b = b

differ_own : (a : Bool) → differ a a ≡ false
unfolding differ
differ_own true = refl
differ_own false = refl

differ_chain : (a b c : Bool) → differ (differ a b) (differ b c) ≡ differ a c
unfolding differ
differ_chain true true c = refl
differ_chain true false true = refl
differ_chain true false false = refl
differ_chain false true true = refl
differ_chain false true false = refl
differ_chain false false c = refl

differ_swap : (a b c : Bool) → differ a (differ b c) ≡ differ b (differ a c)
unfolding differ
differ_swap true true c = refl
differ_swap true false c = refl
differ_swap false true c = refl
differ_swap false false c = refl

-- ---- a walk has an odd number of edges at its ends alone

-- an edge ends at a stop
touches : ℕ → Edge → Bool
touches stop edge = nat_eq edge.left stop || nat_eq edge.right stop

-- an odd number of some edges end at a stop
odd_at : ℕ → List Edge → Bool
odd_at stop [] = false
odd_at stop (edge ∷ edges) = differ (touches stop edge) (odd_at stop edges)

either_end : (left right stop : ℕ) → left ≢ right
    → (nat_eq left stop || nat_eq right stop) ≡ differ (nat_eq left stop) (nat_eq right stop)
unfolding differ
either_end left right stop apart = grind (arith, nat_eq, differ, eqb-true)

differ_flip : (a b : Bool) → differ a b ≡ differ b a
unfolding differ
differ_flip true true = refl
differ_flip true false = refl
differ_flip false true = refl
differ_flip false false = refl

touches_ends : (edge : Edge) (from next stop : ℕ) → edge.left ≢ edge.right
    → across edge from ≡ Some next
    → touches stop edge ≡ differ (nat_eq from stop) (nat_eq next stop)
unfolding touches
touches_ends edge from next stop apart over =
    grind (arith, either_end, ends_are, differ, nat_eq, differ_flip)

module _ (edges : List Edge) (n : ℕ) (sound : All (IsEdge n) edges) where
  odd_ends : (from to stop : ℕ) (walk : List Edge) → IsWalk edges from to walk
      → odd_at stop walk ≡ differ (nat_eq from stop) (nat_eq to stop)
  unfolding odd_at
  odd_ends from to stop [] is = grind (arith, differ_own, nat_eq, differ, staying_end)
  odd_ends from to stop (edge ∷ walk) is =
      let start = begins edges from to edge walk is in
      let own = All-contains (IsEdge n) edges edge sound start.there in
      ap (λ b. differ b (odd_at stop walk))
      (touches_ends edge from start.next stop own.apart start.over)
      ∙ ap (differ (differ (nat_eq from stop) (nat_eq start.next stop)))
      (odd_ends start.next to stop walk start.on)
      ∙ differ_chain (nat_eq from stop) (nat_eq start.next stop) (nat_eq to stop)

-- ---- lists of the same numbers

-- an odd number of some numbers pass a test
odd_by : (ℕ → Bool) → List ℕ → Bool
odd_by test [] = false
odd_by test (x ∷ xs) = differ (test x) (odd_by test xs)

odd_told : (edges : List Edge) (stop : ℕ) (path : List ℕ) → All (λ index. index < length edges) path
    → odd_at stop (edges_at edges path)
    ≡ odd_by (λ index. touches stop (get_or edges index no_edge)) path
unfolding odd_at odd_by
odd_told edges stop [] there = refl
odd_told edges stop (index ∷ path) there =
    ap (λ found. odd_at stop (cons_option found (edges_at edges path)))
    (slice_get-get_or edges index no_edge
    (All-head (λ index. index < length edges) index path there))
    ∙ ap (differ (touches stop (get_or edges index no_edge)))
    (odd_told edges stop path (All-tail (λ index. index < length edges) index path there))

-- the first of some numbers that is one is left out
without : ℕ → List ℕ → List ℕ
without x [] = []
without x (y ∷ ys) = cond (nat_eq x y) ys (y ∷ without x ys)

abbrev pub is_in : ℕ → List ℕ → Bool
is_in x xs = list_any (nat_eq x) xs

odd_without : (test : ℕ → Bool) (x : ℕ) (ys : List ℕ) → is_in x ys ≡ true
    → odd_by test ys ≡ differ (test x) (odd_by test (without x ys))
unfolding odd_by without
odd_without test x [] there = cc
odd_without test x (y ∷ ys) there = elim (cases_Bool (nat_eq x y)) [
  | inl same ↦ rw same (ap (λ at. differ (test at) (odd_by test ys)) (sym (eqb-true x y same)))
  | inr other ↦ rw other (ap (differ (test y)) (odd_without test x ys (rw other at there))
      ∙ differ_swap (test y) (test x) (odd_by test (without x ys)))
]

still_in : (x p : ℕ) (ys : List ℕ) → p ≢ x → is_in p (without x ys) ≡ is_in p ys
unfolding without
still_in x p [] apart = refl
still_in x p (y ∷ ys) apart =
    grind (arith, cases_Bool, nat_eq, ne_eqb, eqb-true, still_in x p ys apart)

none_of : (x : ℕ) (ys : List ℕ) → AllByRecursion (λ y. nat_eq x y ≡ false) ys → is_in x ys ≡ false
none_of x [] apart = refl
none_of x (y ∷ ys) apart = ap (λ b. b || list_any (nat_eq x) ys) apart.0 ∙ none_of x ys apart.1

not_in : (x : ℕ) (ys : List ℕ) → IsDistinct nat_eq ys → is_in x (without x ys) ≡ false
unfolding without IsDistinct
not_in x [] apart = refl
not_in x (y ∷ ys) apart = elim (cases_Bool (nat_eq x y)) [
  | inl same ↦ rw same (subst (λ at. list_any (nat_eq at) ys ≡ false) (sym (eqb-true x y same))
      (none_of y ys apart.0))
  | inr other ↦ grind (arith, nat_eq, without, not_in x ys apart.1)
]

all_without : (P : ℕ → Type 0) (x : ℕ) (ys : List ℕ) → AllByRecursion P ys
    → AllByRecursion P (without x ys)
unfolding without
all_without P x [] all = tt
all_without P x (y ∷ ys) all = grind (arith, cases_Bool, nat_eq, all_without P x ys all.1)

distinct_without : (x : ℕ) (ys : List ℕ) → IsDistinct nat_eq ys → IsDistinct nat_eq (without x ys)
unfolding without IsDistinct
distinct_without x [] apart = tt
distinct_without x (y ∷ ys) apart =
    grind (arith, cases_Bool, nat_eq, all_without, distinct_without x ys apart.1)

-- numbers of one list are in another one
abbrev pub AreIn : List ℕ → List ℕ → Type 0
AreIn xs ys = (x : ℕ) → is_in x xs ≡ true → is_in x ys ≡ true

no_members : (ys : List ℕ) → AreIn ys [] → ys ≡ []
no_members [] none = refl
no_members (y ∷ ys) none =
    let first : false ≡ true = none y (ap (λ b. b || list_any (nat_eq y) ys) (eq-eqb y y refl)) in
    cc

false_of : (a b : Bool) → a ≡ false → b ≡ true → a ≡ b → ⊥
false_of a b none there same = let both : false ≡ true = sym none ∙ same ∙ there in cc

same_odd : (test : ℕ → Bool) (xs ys : List ℕ) → IsDistinct nat_eq xs → IsDistinct nat_eq ys
    → AreIn xs ys → AreIn ys xs → odd_by test xs ≡ odd_by test ys
unfolding odd_by IsDistinct
same_odd test [] ys one two into back = ap (odd_by test) (sym (no_members ys back))
same_odd test (x ∷ xs) ys one two into back =
    let there : is_in x ys ≡ true = into x (ap (λ b. b || list_any (nat_eq x) xs) (eq-eqb x x refl))
    in
    let own : is_in x xs ≡ false = none_of x xs one.0 in
    let gone : is_in x (without x ys) ≡ false = not_in x ys two in
    ap (differ (test x)) (same_odd test xs (without x ys) one.1 (distinct_without x ys two)
    (λ p h.
    let apart : p ≢ x = λ same. false_of _ _ own h (ap (λ at. is_in at xs) (sym same)) in
    still_in x p ys apart ∙ into p (or_second (nat_eq p x) (is_in p xs) h))
    (λ p h.
    let apart : p ≢ x = λ same. false_of _ _ gone h (ap (λ at. is_in at (without x ys)) (sym same))
    in
    let in_ys : is_in p ys ≡ true = sym (still_in x p ys apart) ∙ h in
    sym (ap (λ b. b || is_in p xs) (ne_eqb p x apart)) ∙ back p in_ys))
    ∙ sym (odd_without test x ys there)

-- ---- the ends of two walks over the same edges

-- two stops are two others, in some order
abbrev pub AreEnds : ℕ → ℕ → ℕ → ℕ → Type 0
AreEnds a b c d = ((a ≡ c) × (b ≡ d)) ⊎ ((a ≡ d) × (b ≡ c))

module _ (a b c d : ℕ) (apart : a ≢ b)
    (same : (stop : ℕ) → differ (nat_eq a stop) (nat_eq b stop) ≡ differ (nat_eq c stop)
    (nat_eq d stop)) where
  at_first : differ (nat_eq c a) (nat_eq d a) ≡ true
  unfolding differ
  at_first = sym (same a) ∙ ap (λ t. differ t (nat_eq b a)) (eq-eqb a a refl)
      ∙ ap not (ne_eqb b a (λ e. apart (sym e)))

  at_second : differ (nat_eq c b) (nat_eq d b) ≡ true
  unfolding differ
  at_second = sym (same b) ∙ ap (λ t. differ t (nat_eq b b)) (ne_eqb a b apart)
      ∙ eq-eqb b b refl

  same_ends : AreEnds a b c d
  unfolding differ
  same_ends = grind (arith, nat_eq, at_first, differ, eqb-true, ne_eqb, at_second)

-- two paths with the same edges have the same ends
pub paths_ends : (edges : List Edge) (n a b c d : ℕ) (path other : List ℕ) → All (IsEdge n) edges
    → IsSimple edges path → IsSimple edges other → IsWalk edges a b (edges_at edges path)
    → IsWalk edges c d (edges_at edges other) → a ≢ b → AreIn path other → AreIn other path
    → AreEnds a b c d
paths_ends edges n a b c d path other sound one two first second apart into back =
    same_ends a b c d apart (λ stop.
    sym (odd_ends edges n sound a b stop (edges_at edges path) first)
    ∙ odd_told edges stop path one.there
    ∙ same_odd (λ index. touches stop (get_or edges index no_edge)) path other one.apart two.apart
    into back
    ∙ sym (odd_told edges stop other two.there)
    ∙ odd_ends edges n sound c d stop (edges_at edges other) second)

-- what a test of lists says of their members
pub members_in : (path other : List ℕ) → list_all (λ edge. list_any (nat_eq edge) other) path ≡ true
    → AreIn path other
members_in path other all x there =
    grind (arith, Any-from_list_any, nat_eq, eqb-true, AllPass-from_list_all)
