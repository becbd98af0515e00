-- Which open changes times break, one after the other.
use Rattle.plan_num.proofs.Common.{◌≡◌, ◌≢◌, ◌∙◌, ℕ, ◌+◌, ◌<◌, ◌&&◌, Bool, false, List, length}
use Rattle.plan_num.proofs.Common.{get_or, slice_set, ap, sym, subst, arith, length-set}
use Rattle.delay_trials.specs.declared.ends.ChangeEnd.{ChangeEnd}
use Rattle.propagation.specs.declared.step.Activity.{Activity}
use Rattle.propagation.proofs.Common.{is_broken}
use Rattle.delay_trials.specs.Stillness.{TestsSome}
use Rattle.bit_rows.proofs.Cases.{by_less, by_same}
use Rattle.delay_trials.proofs.Apart.{set_here, set_there}

module _ (changes : List Activity) (times : List ℕ) (open_yet : List Bool) where
  abbrev test : ℕ → Activity → Bool
  test k d = get_or open_yet k false && is_broken times (get_or changes k d)

  abbrev Tested : List Bool → ℕ → Activity → Type 0
  Tested broken k d = get_or broken k false ≡ test k d

  module _ (old new : List Bool) (at : ℕ) (is : (d : Activity) → new ≡ slice_set old at (test at d)) where
    pub same_size : (d : Activity) → length new ≡ length old
    same_size d = ap length (is d) ∙ length-set old at (test at d)

    pub one_tested : at < length old → (k : ℕ) (d : Activity) → (k ≢ at → Tested old k d) → Tested new k d
    one_tested inside k d others =
        by_same k at
        (λ same. subst (λ n. Tested new n d) (sym same) (set_here old new at (test at d) false (is d) inside))
        (λ apart. set_there old new at (test at d) false (is d) k apart ∙ others apart)

    pub more_tested : at < length old → ((k : ℕ) (d : Activity) → k < at → Tested old k d)
        → (k : ℕ) (d : Activity) → k < at + 1 → Tested new k d
    more_tested inside so_far k d less = grind (arith, one_tested, by_less)

  -- the change of one end is tested
  pub one_done : (ends : List ChangeEnd) (old new : List Bool) (at change : ℕ)
      → ((e : ChangeEnd) → change ≡ (get_or ends at e).change)
      → ((d : Activity) → new ≡ slice_set old change (test change d)) → change < length old
      → TestsSome changes times open_yet ends at (at + 1) old new
  one_done ends old new at change told is room = record {
    size = same_size old new change is (record { id = 0; step = record { from = 0; to = 0; lower = 0; extra = 0 } });
    keeps = λ k d tested. one_tested old new change is room k d (λ apart. tested);
    done = λ j f d low high there. grind (arith, get_or, set_here);
  }
