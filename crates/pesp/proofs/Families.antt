-- Sets of times by a test of events and times, and rounds on them.
use Rattle.plan_num.proofs.Common.{◌≡◌, ℕ, zero, suc, ◌+◌, ◌<◌, Bool, inl, inr, cond, ◌&&◌, List}
use Rattle.plan_num.proofs.Common.{[], ◌∷◌, map, filter, refl, ap, arith, enumerate_from}
use Rattle.plan_num.proofs.Common.{range_with_len, get_or-map-range_with_len, cases_Bool}
use Rattle.bit_rows.proofs.Columns.{same_filter}
use Rattle.pesp.specs.Timetables.{Problem}
use Rattle.pesp.specs.Marks.{Marks, family, is_left, sets_of}
use Rattle.pesp.specs.Revising.{Left}
use Rattle.pesp.specs.TimeSets.{has_partners, left_to, round}
use Rattle.pesp.proofs.Partners.{same_on_range}

-- ---- filters

pub filter_twice : (test other : ℕ → Bool) (xs : List ℕ)
    → filter other (filter test xs) ≡ filter (λ x. test x && other x) xs
filter_twice test other [] = refl
filter_twice test other (x ∷ xs) = elim (cases_Bool (test x)) [
  | inl is ↦ rw is (ap (λ rest. cond (other x) (x ∷ rest) rest) (filter_twice test other xs))
  | inr is ↦ rw is (filter_twice test other xs)
]

-- ---- families

-- the times for which both tests hold
abbrev pub both_of : Left → Left → Left
both_of left other event time = left event time && other event time

module _ (period : ℕ) where
  abbrev times : Left → ℕ → List ℕ
  times left event = filter (left event) (range_with_len 0 period)

  pub same_family : (events : ℕ) (left other : Left)
      → ((e t : ℕ) → e < events → t < period → left e t ≡ other e t)
      → family period events left ≡ family period events other
  same_family events left other same =
      same_on_range (times left) (times other) 0 events
      (λ e _ high. same_filter (left e) (other e) 0 period
      (λ t _ small. same e t (omega (arith, high)) (omega (arith, small))))

  pub left_to_family : (events : ℕ) (left : Left) (event : ℕ) → event < events
      → left_to (family period events left) event ≡ times left event
  left_to_family events left event within =
      get_or-map-range_with_len (times left) 0 events event event [] within (omega arith)

  -- each set together with its event
  numbered : {X : Type 0} (visit : ℕ × List ℕ → X) (set : ℕ → List ℕ) (from n : ℕ)
      → map visit (enumerate_from from (map set (range_with_len from n)))
      ≡ map (λ e. visit (e, set e)) (range_with_len from n)
  numbered visit set from zero = refl
  numbered visit set from (suc n) =
      ap (λ xs. visit (from, set from) ∷ xs) (numbered visit set (from + 1) n)

  pub round_family : (problem : Problem) (events : ℕ) (left : Left)
      → round problem (family period events left)
      ≡ family period events (both_of left (has_partners problem (family period events left)))
  round_family problem events left = grind (arith, numbered, filter_twice)

-- marks are a family
pub sets_family : (sets : Marks) → sets_of sets ≡ family sets.columns sets.rows (is_left sets)
sets_family sets = grind arith
