-- The ends of changes by their events, and where those of an event begin.
use Rattle.plan_num.proofs.Common.{◌≡◌, ℕ, ◌+◌, ◌<◌, ◌≤◌, true, false, ltb, List, [], ◌∷◌, ◌++◌}
use Rattle.plan_num.proofs.Common.{length, get_or, nat_eq, All, arith, Contains, IsNonDecreasingBy}
use Rattle.plan_num.proofs.Common.{IsPartitionPoint, IsPermutation, eqb-false, get_or_default}
use Rattle.plan_num.proofs.Common.{All-append, All-cons, All-contains, All-contains_itself, All-nil}
use Rattle.plan_num.proofs.Common.{Contains-append_left, Contains-push, All-permutation}
use Rattle.plan_num.proofs.Common.{IsPermutation-sym}
use Rattle.delay_trials.specs.declared.ends.ChangeEnd.{ChangeEnd}
use Rattle.propagation.specs.declared.step.Activity.{Activity}
use Rattle.delay_trials.specs.ChangeEnds.{HasEnds, HasNone, IsFirst}
use Rattle.bit_rows.proofs.Cases.{by_less}

pub first_is : {X : Type 0} (key : X → ℕ) (xs : List X) (least first : ℕ) → first ≤ length xs
    → IsPartitionPoint (λ x. ltb (key x) least ≡ true) (λ x. ltb (key x) least ≡ false) xs first
    → IsFirst key xs least first
first_is key xs least first most parts = grind arith

-- the ends of the first changes
pub record EndsSoFar (changes : List Activity) (count : ℕ) (ends : List ChangeEnd) : Type 0 where
  pub there : All (λ end. end.change < length changes) ends
  pub from : (k : ℕ) (d : Activity) → k < count
      → Contains ends (record { event = (get_or changes k d).step.from; change = k })
  pub to : (k : ℕ) (d : Activity) → k < count
      → Contains ends (record { event = (get_or changes k d).step.to; change = k })

pub one_more : (changes : List Activity) (count : ℕ) (ends : List ChangeEnd) → EndsSoFar changes count ends
    → count < length changes → (e : Activity) (first second : List ChangeEnd)
    → first ≡ ends ++ record { event = (get_or changes count e).step.from; change = count } ∷ []
    → second ≡ first ++ record { event = (get_or changes count e).step.to; change = count } ∷ []
    → EndsSoFar changes (count + 1) second
one_more changes count ends so_far inside e first second one two =
    let P : ChangeEnd → Type 0 = λ end. end.change < length changes in
    let a : ChangeEnd = record { event = (get_or changes count e).step.from; change = count } in
    let b : ChangeEnd = record { event = (get_or changes count e).step.to; change = count } in
    rw (two, one) (record {
      there = All-append P (ends ++ a ∷ []) (b ∷ [])
          (All-append P ends (a ∷ []) so_far.there (All-cons P a [] inside (All-nil P)))
          (All-cons P b [] inside (All-nil P));
      from = λ k d less. by k count less
          (λ old. Contains-append_left (ends ++ a ∷ []) (b ∷ []) _
          (Contains-append_left ends (a ∷ []) _ (so_far.from k d old)))
          (λ same. rw (same, get_or_default changes count d e inside)
          (Contains-append_left (ends ++ a ∷ []) (b ∷ []) a (Contains-push ends a)));
      to = λ k d less. by k count less
          (λ old. Contains-append_left (ends ++ a ∷ []) (b ∷ []) _
          (Contains-append_left ends (a ∷ []) _ (so_far.to k d old)))
          (λ same. rw (same, get_or_default changes count d e inside) (Contains-push (ends ++ a ∷ []) b));
    })
  where
    by : {P : Type 0} (k n : ℕ) → k < n + 1 → (k < n → P) → (k ≡ n → P) → P
    by k n less old new = by_less k n old (λ most. new (omega (arith, most, less)))

contains_moved : {X : Type 0} (xs ys : List X) → IsPermutation xs ys → (x : X) → Contains xs x → Contains ys x
contains_moved xs ys moved x there =
    All-contains (Contains ys) xs x
    (All-permutation (Contains ys) ys xs (IsPermutation-sym xs ys moved) (All-contains_itself ys)) there

pub ends_moved : (changes : List Activity) (ends moved : List ChangeEnd) → HasEnds changes ends
    → IsPermutation ends moved → HasEnds changes moved
ends_moved changes ends moved has is = record {
  there = All-permutation (λ (end : ChangeEnd). end.change < length changes) ends moved is has.there;
  from = λ k d inside. contains_moved ends moved is _ (has.from k d inside);
  to = λ k d inside. contains_moved ends moved is _ (has.to k d inside);
}

-- no end is at an event where the first that may be is at another one
pub none_there : (ends : List ChangeEnd) (first event : ℕ) → IsNonDecreasingBy (λ (e : ChangeEnd). e.event) ends
    → IsFirst (λ (e : ChangeEnd). e.event) ends event first → (d : ChangeEnd) → first < length ends
    → nat_eq (get_or ends first d).event event ≡ false → HasNone ends event
none_there ends first event sorted is d inside apart j e there same = grind (
  arith,
  by_less,
  eqb-false,
  get_or,
  get_or_default,
)
