-- The walks that go on beside the labels of stops: what reaching a stop and settling one keep.
use Rattle.plan_num.proofs.Common.{◌≡◌, ◌≢◌, ℕ, ◌<◌, ◌≤◌, true, false, List, [], ◌∷◌, length}
use Rattle.plan_num.proofs.Common.{replicate, set, refl, ap, sym, subst, ◌∙◌, All, Contains, arith}
use Rattle.plan_num.proofs.Common.{IsPermutation, cases_lt, eq-eqb, length-set, length-replicate}
use Rattle.plan_num.proofs.Common.{get_or-replicate, get_or_past, All-cons, All-head, All-tail}
use Rattle.plan_num.proofs.Common.{All-nil, All-weaker, All-permutation, Contains-permutation}
use Rattle.walks.specs.declared.label.Label.{Label}
use Rattle.walks.specs.declared.label.Label.TheVariants.{Unseen, Reached, Settled}
use Rattle.walks.specs.Labels.{label_at, is_reached_with, GoesOn, IsNearest}
use Rattle.walks.proofs.Settling.{at_set, reached_same}
use Rattle.plan_num.proofs.Members.{Contains-head, Contains-cons, Contains-rec}

-- ---- one label

not_reached_with : (sum : ℕ) (label : Label) → label ≡ Reached sum
    → is_reached_with sum label ≡ true
not_reached_with sum label is = ap (is_reached_with sum) is ∙ eq-eqb sum sum refl

-- ---- reaching a stop

module _ (labels : List Label) (walks more : List (ℕ × ℕ)) (stop sum : ℕ)
    (so_far : GoesOn labels walks) (here : stop < length labels)
    (moved : IsPermutation ((sum, stop) ∷ walks) more) where
  abbrev all : List (ℕ × ℕ)
  all = (sum, stop) ∷ walks

  abbrev after : List Label
  after = set labels stop (Reached sum)

  pub reach_goes_on : GoesOn after more
  reach_goes_on = record {
    within = All-permutation (λ (walk : ℕ × ℕ). walk.1 < length after) all more moved
        (All-cons (λ (walk : ℕ × ℕ). walk.1 < length after) (sum, stop) walks
        (omega (arith, length-set labels stop (Reached sum)))
        (All-weaker (λ (walk : ℕ × ℕ). walk.1 < length labels)
        (λ (walk : ℕ × ℕ). walk.1 < length after)
        (λ walk h. omega (arith, length-set labels stop (Reached sum))) walks so_far.within));
    reached = λ other far is. Contains-permutation all more (far, other) moved
        (at_set (λ label. label ≡ Reached far → Contains all (far, other)) labels stop
        (Reached sum) other here
        (λ same own. subst (λ some. Contains all (some, other)) (reached_same sum far own)
        (subst (λ some. Contains all (sum, some)) (sym same) (Contains-head (sum, stop) walks)))
        (λ apart own. Contains-cons (sum, stop) (far, other) walks (so_far.reached other far own))
        is);
  }

-- before the first walk
none_goes_on : (stops : ℕ) → GoesOn (replicate stops Unseen) []
none_goes_on stops =
    grind (arith, All-nil, cases_lt, get_or-replicate, get_or_past, length-replicate)

pub first_goes_on : (stops from : ℕ) (labels : List Label) (walks more : List (ℕ × ℕ))
    → labels ≡ replicate stops Unseen → walks ≡ [] → from < stops
    → IsPermutation ((0, from) ∷ walks) more → GoesOn (set labels from (Reached 0)) more
first_goes_on stops from labels walks more unseen none here moved =
    reach_goes_on labels walks more from 0
    (subst (λ some. GoesOn some walks) (sym unseen) (subst (GoesOn (replicate stops Unseen))
    (sym none) (none_goes_on stops)))
    (omega (arith, ap length unseen, length-replicate stops Unseen)) moved

-- ---- taking out a walk

module _ (labels : List Label) (walks rest : List (ℕ × ℕ)) (stop sum : ℕ)
    (so_far : GoesOn labels walks)
    (moved : IsPermutation walks ((sum, stop) ∷ rest)) where
  abbrev IsWithin : ℕ × ℕ → Type 0
  IsWithin walk = walk.1 < length labels

  all_within : All IsWithin ((sum, stop) ∷ rest)
  all_within = All-permutation IsWithin walks ((sum, stop) ∷ rest) moved so_far.within

  pub stop_within : stop < length labels
  stop_within = All-head IsWithin (sum, stop) rest all_within

  -- one that is not the least to its stop is passed over
  pub pass_goes_on : is_reached_with sum (label_at labels stop) ≡ false → GoesOn labels rest
  pass_goes_on test = record {
    within = All-tail IsWithin (sum, stop) rest all_within;
    reached = λ other far is.
        Contains-rec (λ (walk : ℕ × ℕ). label_at labels walk.1 ≡ Reached walk.0
        → Contains rest walk) (sum, stop) (far, other) rest
        (Contains-permutation walks ((sum, stop) ∷ rest) (far, other) moved
        (so_far.reached other far is))
        (λ own. let yes = not_reached_with sum (label_at labels stop) own in cc)
        (λ walk there own. there) is;
  }

  -- the stop of one that is least is settled
  pub settle_goes_on : GoesOn (set labels stop (Settled sum)) rest
  settle_goes_on = record {
    within = All-weaker IsWithin (λ (walk : ℕ × ℕ). walk.1 < length (set labels stop (Settled sum)))
        (λ walk h. omega (arith, length-set labels stop (Settled sum))) rest
        (All-tail IsWithin (sum, stop) rest all_within);
    reached = λ other far is. at_set (λ label. label ≡ Reached far → Contains rest (far, other))
        labels stop (Settled sum) other stop_within
        (λ same own. cc)
        (λ apart own.
        Contains-rec (λ (walk : ℕ × ℕ). walk.1 ≢ stop → Contains rest walk) (sum, stop)
        (far, other) rest
        (Contains-permutation walks ((sum, stop) ∷ rest) (far, other) moved
        (so_far.reached other far own))
        (λ off. absurd (off refl)) (λ walk there off. there) apart)
        is;
  }

  -- it is the nearest
  pub nearest_is : is_reached_with sum (label_at labels stop) ≡ true
      → All (λ (walk : ℕ × ℕ). sum ≤ walk.0) walks → IsNearest labels (length labels) stop sum
  nearest_is test least = grind arith

-- where no walk goes on, each stop that is reached is settled
pub none_left : (labels : List Label) (walks : List (ℕ × ℕ)) → GoesOn labels walks → walks ≡ []
    → (other far : ℕ) → other < length labels → label_at labels other ≢ Reached far
none_left labels walks so_far none other far within is = grind arith
