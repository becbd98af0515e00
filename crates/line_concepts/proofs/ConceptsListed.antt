-- The concepts of a region are those that lie in it, and as many as are counted.
use Rattle.plan_num.proofs.Common.{◌≡◌, ℕ, zero, suc, ◌+◌, ◌-◌, ◌*◌, ◌<◌, ◌≤◌, List, [], ◌∷◌, ◌++◌}
use Rattle.plan_num.proofs.Common.{◌≢◌, get_or, length, map, All, refl, ap, subst, arith, AllPairs}
use Rattle.plan_num.proofs.Common.{Contains, flat_map, range_with_len, length-append, length-map}
use Rattle.plan_num.proofs.Common.{All-append, All-cons, All-contains, All-head, All-map, All-nil}
use Rattle.plan_num.proofs.Common.{All-tail, AllPairs-cons, All-weaker, Contains-append_left}
use Rattle.plan_num.proofs.Common.{Contains-append_right}
use Rattle.line_cost_model.specs.declared.range.LineRange.{LineRange}
use Rattle.line_cost_model.proofs.Common.{LiesIn}
use Rattle.line_cost_model.specs.Regions.{concept_count, concepts_in}
use Rattle.line_concepts.specs.RightSearches.{AreListed}

-- a frequency in front of each of some concepts
abbrev led_by : List (List ℕ) → ℕ → List (List ℕ)
led_by concepts frequency = map (λ rest. frequency ∷ rest) concepts

there : (frequency : ℕ) (concepts : List (List ℕ)) (rest : List ℕ) → Contains concepts rest
    → Contains (led_by concepts frequency) (frequency ∷ rest)
there frequency [] rest (k, less, is) = absurd (omega (arith, less))
there frequency (concept ∷ concepts) rest (zero, less, is) =
    (0, omega arith, ap (λ some. frequency ∷ some) is)
there frequency (concept ∷ concepts) rest (suc k, less, is) =
    let behind = there frequency concepts rest (k, omega (arith, less), is) in
    (suc behind.0, omega (arith, behind.1), behind.2)

-- one of the frequencies from some number on
among : (concepts : List (List ℕ)) (rest : List ℕ) → Contains concepts rest → (lo n frequency k : ℕ)
    → frequency ≡ lo + k → k < n
    → Contains (flat_map (led_by concepts) (range_with_len lo n)) (frequency ∷ rest)
among concepts rest has lo zero frequency k is less = absurd (omega (arith, less))
among concepts rest has lo (suc n) frequency zero is less =
    let own : lo ≡ frequency = omega (arith, is) in
    Contains-append_left (led_by concepts lo)
    (flat_map (led_by concepts) (range_with_len (lo + 1) n)) (frequency ∷ rest)
    (subst (λ f. Contains (led_by concepts lo) (f ∷ rest)) own (there lo concepts rest has))
among concepts rest has lo (suc n) frequency (suc k) is less =
    grind (
      arith,
      Contains-append_right,
      among concepts rest has (lo + 1) n frequency k (omega (arith, is)) (omega (arith, less)),
    )

each_there : (region : List LineRange) (concept : List ℕ) → LiesIn region concept
    → Contains (concepts_in region) concept
unfolding concepts_in
each_there [] [] lies = (0, omega arith, refl)
each_there [] (frequency ∷ rest) lies = absurd lies
each_there (range ∷ region) [] lies = absurd lies
each_there (range ∷ region) (frequency ∷ rest) lies =
    among (concepts_in region) rest (each_there region rest lies.1) range.lo
    (range.hi + 1 - range.lo) frequency (frequency - range.lo) (omega (arith, lies.0.low))
    (omega (arith, lies.0.low, lies.0.high))

all_inside : (range : LineRange) (region : List LineRange) (concepts : List (List ℕ)) (lo n : ℕ)
    → range.lo ≤ lo → ((i : ℕ) → i < n → lo + i ≤ range.hi) → All (LiesIn region) concepts
    → All (LiesIn (range ∷ region)) (flat_map (led_by concepts) (range_with_len lo n))
all_inside range region concepts lo zero low high all = All-nil (LiesIn (range ∷ region))
all_inside range region concepts lo (suc n) low high all =
    let Inside : List ℕ → Type 0 = LiesIn (range ∷ region) in
    let own = high 0 (omega arith) in
    All-append Inside (led_by concepts lo) (flat_map (led_by concepts) (range_with_len (lo + 1) n))
    (All-map Inside (λ rest. lo ∷ rest) concepts
    (All-weaker (LiesIn region) (λ rest. Inside (lo ∷ rest))
    (λ rest lies. (record { low = low; high = omega (arith, own) }, lies)) concepts all))
    (all_inside range region concepts (lo + 1) n (omega (arith, low))
    (λ i less. let more = high (suc i) (omega (arith, less)) in omega (arith, more)) all)

all_lie : (region : List LineRange) → All (LiesIn region) (concepts_in region)
unfolding concepts_in
all_lie [] = All-cons (LiesIn []) [] [] tt (All-nil (LiesIn []))
all_lie (range ∷ region) = grind (arith, all_inside, all_lie region)

led_count : (concepts : List (List ℕ)) (lo n : ℕ)
    → length (flat_map (led_by concepts) (range_with_len lo n)) ≡ n * length concepts
led_count concepts lo zero = omega arith
led_count concepts lo (suc n) =
    grind (arith, length-append, length-map, led_count concepts (lo + 1) n)

as_many : (region : List LineRange) → length (concepts_in region) ≡ concept_count region
unfolding concepts_in concept_count
as_many [] = refl
as_many (range ∷ region) = grind (arith, led_count, as_many region)

-- ---- no concept stands there twice

pairs_behind : {X : Type 0} (R : X → X → Type 0) (x : X) (xs : List X) → AllPairs R (x ∷ xs)
    → All (R x) xs × AllPairs R xs
pairs_behind R x xs pairs = (
  λ k d h. pairs 0 (suc k) d (omega arith) (omega (arith, h)),
  λ i j d less h. pairs (suc i) (suc j) d (omega (arith, less)) (omega (arith, h)),
)

pairs_both : {X : Type 0} (R : X → X → Type 0) (xs ys : List X) → AllPairs R xs → AllPairs R ys
    → All (λ x. All (R x) ys) xs → AllPairs R (xs ++ ys)
pairs_both R [] ys own more cross = more
pairs_both R (x ∷ xs) ys own more cross =
    let behind = pairs_behind R x xs own in
    AllPairs-cons R x (xs ++ ys)
    (All-append (R x) xs ys behind.0 (All-head (λ x. All (R x) ys) x xs cross))
    (pairs_both R xs ys behind.1 more (All-tail (λ x. All (R x) ys) x xs cross))

abbrev Differ : List ℕ → List ℕ → Type 0
Differ concept other = concept ≢ other

behind_first : (frequency : ℕ) (rest other : List ℕ) → frequency ∷ rest ≡ frequency ∷ other
    → rest ≡ other
behind_first frequency rest other e = cc

led_differ : (frequency : ℕ) (concepts : List (List ℕ)) → AllPairs Differ concepts
    → AllPairs Differ (led_by concepts frequency)
led_differ frequency [] pairs = λ i j d less h. absurd (omega (arith, h))
led_differ frequency (concept ∷ concepts) pairs =
    let behind = pairs_behind Differ concept concepts pairs in
    AllPairs-cons Differ (frequency ∷ concept) (led_by concepts frequency)
    (All-map (Differ (frequency ∷ concept)) (λ rest. frequency ∷ rest) concepts
    (All-weaker (Differ concept) (λ rest. Differ (frequency ∷ concept) (frequency ∷ rest))
    (λ rest differ same. differ (behind_first frequency concept rest same)) concepts behind.0))
    (led_differ frequency concepts behind.1)

-- those that begin with a greater frequency are others
others_begin : (frequency lo n : ℕ) (concepts : List (List ℕ)) → frequency < lo
    → All (λ other. (rest : List ℕ) → Differ (frequency ∷ rest) other)
    (flat_map (led_by concepts) (range_with_len lo n))
others_begin frequency lo zero concepts less =
    All-nil (λ other. (rest : List ℕ) → Differ (frequency ∷ rest) other)
others_begin frequency lo (suc n) concepts less =
    let Other : List ℕ → Type 0 = λ other. (rest : List ℕ) → Differ (frequency ∷ rest) other in
    All-append Other (led_by concepts lo) (flat_map (led_by concepts) (range_with_len (lo + 1) n))
    (All-map Other (λ rest. lo ∷ rest) concepts (λ k d h rest same.
    let first : frequency ≡ lo = cc in omega (arith, first, less)))
    (others_begin frequency (lo + 1) n concepts (omega (arith, less)))

all_differ : (concepts : List (List ℕ)) (lo n : ℕ) → AllPairs Differ concepts
    → AllPairs Differ (flat_map (led_by concepts) (range_with_len lo n))
all_differ concepts lo zero pairs = λ i j d less h. absurd (omega (arith, h))
all_differ concepts lo (suc n) pairs =
    let rest = flat_map (led_by concepts) (range_with_len (lo + 1) n) in
    pairs_both Differ (led_by concepts lo) rest (led_differ lo concepts pairs)
    (all_differ concepts (lo + 1) n pairs)
    (All-map (λ concept. All (Differ concept) rest) (λ some. lo ∷ some) concepts
    (λ k d h. All-weaker (λ other. (some : List ℕ) → Differ (lo ∷ some) other)
    (Differ (lo ∷ get_or concepts k d)) (λ other differ. differ (get_or concepts k d)) rest
    (others_begin lo (lo + 1) n concepts (omega arith))))

none_twice : (region : List LineRange) → AllPairs Differ (concepts_in region)
unfolding concepts_in
none_twice [] = λ i j d less h. absurd (omega (arith, less, h))
none_twice (range ∷ region) =
    all_differ (concepts_in region) range.lo (range.hi + 1 - range.lo) (none_twice region)

pub concepts_listed : (region : List LineRange) → AreListed region
concepts_listed region =
    grind (arith, each_there, there, All-contains, all_lie, none_twice, as_many)
