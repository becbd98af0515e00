-- The links of a rank wait, one after the other.
use Rattle.plan_num.proofs.Common.{◌≡◌, ◌≢◌, ◌∙◌, ℕ, ◌+◌, ◌<◌, ◌≤◌, ◌⊎◌, inl, inr, Bool, true}
use Rattle.plan_num.proofs.Common.{false, List, length, get_or, slice_set, ap, sym, subst, arith}
use Rattle.plan_num.proofs.Common.{IsNonDecreasingBy, false≢true, get_or_default, length-set}
use Rattle.propagation.specs.declared.links.Link.{Link}
use Rattle.delay_trials.specs.OnTrial.{WaitBy}
use Rattle.bit_rows.proofs.Cases.{by_less, by_same}
use Rattle.delay_trials.proofs.Apart.{set_here, set_there}

pub other_at : (links : List Link) (rank at : ℕ) (e : Link) → (get_or links at e).rank ≢ rank
    → (d : Link) → at < length links → (get_or links at d).rank ≢ rank
other_at links rank at e other d inside same =
    other (ap (λ (l : Link). l.rank) (get_or_default links at e d inside) ∙ same)

module _ (links : List Link) (rank : ℕ) (first : List Bool) where
  -- the links of the rank before a place wait, and those behind are as they were
  pub record WaitTo (at : ℕ) (now : List Bool) : Type 0 where
    pub size : length now ≡ length links
    pub behind : (j : ℕ) (d : Link) → at ≤ j → j < length links → rank ≤ (get_or links j d).rank
    pub ahead : (k : ℕ) → at ≤ k → get_or now k false ≡ get_or first k false
    pub out : (k : ℕ) (d : Link) → k < at → k < length links → get_or now k false ≡ false
        → (get_or first k false ≡ false) × ((get_or links k d).rank ≢ rank)
    pub only : (k : ℕ) (d : Link) → get_or first k false ≡ false
        → (get_or now k false ≡ false) ⊎ ((k < length links) × ((get_or links k d).rank ≡ rank))

  pub one_waits : (at : ℕ) (old new : List Bool) (e : Link) → WaitTo at old → at < length links
      → (get_or links at e).rank ≡ rank → new ≡ slice_set old at true → WaitTo (at + 1) new
  one_waits at old new e is inside same set = record {
    size = ap length set ∙ length-set old at true ∙ is.size;
    behind = λ j d low within. is.behind j d (omega (arith, low)) within;
    ahead = λ k low. grind (arith, set_there);
    out = λ k d less within none.
        by_same k at
        (λ here. absurd (false≢true (sym (subst (λ n. get_or new n false ≡ false) here none)
        ∙ set_here old new at true false set (omega (arith, inside, is.size)))))
        (λ other. is.out k d (omega (arith, less, other)) within
        (sym (set_there old new at true false set k other) ∙ none));
    only = λ k d none.
        by_same k at
        (λ here. inr (
          omega (arith, here, inside),
          ap (λ n. (get_or links n d).rank) here
              ∙ ap (λ (l : Link). l.rank) (get_or_default links at d e inside) ∙ same,
        ))
        (λ other. still k d other (is.only k d none));
  }
    where
      still : (k : ℕ) (d : Link) → k ≢ at
          → (get_or old k false ≡ false) ⊎ ((k < length links) × ((get_or links k d).rank ≡ rank))
          → (get_or new k false ≡ false) ⊎ ((k < length links) × ((get_or links k d).rank ≡ rank))
      still k d other (inl none) = inl (set_there old new at true false set k other ∙ none)
      still k d other (inr there) = inr there

  pub all_wait : (at : ℕ) (now : List Bool) → WaitTo at now → length first ≡ length links
      → IsNonDecreasingBy (λ (link : Link). link.rank) links
      → ((e : Link) → at < length links → (get_or links at e).rank ≢ rank)
      → WaitBy (λ link. link.rank ≡ rank) links first now
  all_wait at now is each sorted past = record {
    size = is.size ∙ sym each;
    out = λ k d inside none.
        by_less k at
        (λ less. is.out k d less inside none)
        (λ most. (
          sym (is.ahead k most) ∙ none,
          λ same.
              let first = is.behind at d (omega arith) (omega (arith, most, inside)) in grind
              (arith, get_or),
        ));
    only = is.only;
  }
