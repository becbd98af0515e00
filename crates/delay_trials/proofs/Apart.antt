-- What stands in a list where one place was set.
use Rattle.plan_num.proofs.Common.{◌≡◌, ◌≢◌, ◌∙◌, ℕ, ◌<◌, List, length, get_or, slice_set, ap}
use Rattle.plan_num.proofs.Common.{get_or-set_same, get_or-set_other, set-get_or, set-set}

module _ {X : Type 0} (old new : List X) (place : ℕ) (x d : X) (is : new ≡ slice_set old place x) where
  pub set_here : place < length old → get_or new place d ≡ x
  set_here inside = ap (λ xs. get_or xs place d) is ∙ get_or-set_same old place x d inside

  pub set_there : (k : ℕ) → k ≢ place → get_or new k d ≡ get_or old k d
  set_there k other = ap (λ xs. get_or xs k d) is ∙ get_or-set_other old place k x d other

-- a place that was set, and has its value again
pub set_back : {X : Type 0} (old : List X) (place : ℕ) (x d : X)
    → slice_set (slice_set old place x) place (get_or old place d) ≡ old
set_back old place x d = set-set old place x (get_or old place d) ∙ set-get_or old place d
