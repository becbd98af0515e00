-- Neighbours in a run, one after the other.
use Rattle.plan_num.proofs.Common.{◌≡◌, ℕ, zero, suc, ◌+◌, ◌-◌, ◌<◌, ◌≤◌, arith, List, [], ◌∷◌}
use Rattle.plan_num.proofs.Common.{◌++◌, length, take, get_or, refl, ap, ◌∙◌, zip, take_all}
use Rattle.plan_num.proofs.Common.{take_more}
use Rattle.event_tables.specs.declared.periodic_event.PeriodicEvent.{PeriodicEvent}
use Rattle.event_tables.proofs.Common.{neighbours}

-- an event with the one behind it
pairs_size : (event : PeriodicEvent) (run : List PeriodicEvent) → length (zip (event ∷ run) run)
    ≡ length run
pairs_size event [] = refl
pairs_size event (next ∷ run) = ap suc (pairs_size next run)

pair_at : (event : PeriodicEvent) (run : List PeriodicEvent) (i : ℕ) (d : PeriodicEvent) → i
    < length run
    → get_or (zip (event ∷ run) run) i (d, d) ≡ (get_or (event ∷ run) i d, get_or run i d)
pair_at event [] i d h = absurd (omega (arith, h))
pair_at event (next ∷ run) zero d h = refl
pair_at event (next ∷ run) (suc i) d h = pair_at next run i d (omega (arith, h))

-- one pair more
pub neighbours_more : (run : List PeriodicEvent) (i : ℕ) (d : PeriodicEvent) → 1 ≤ i → i
    < length run
    → take (i + 1 - 1) (neighbours run)
    ≡ take (i - 1) (neighbours run) ++ (get_or run (i - 1) d, get_or run i d) ∷ []
neighbours_more [] i d some h = absurd (omega (arith, h))
neighbours_more (event ∷ run) zero d some h = absurd (omega (arith, some))
neighbours_more (event ∷ run) (suc i) d some h =
    let e : suc i + 1 - 1 ≡ i + 1 = omega arith in
    let f : suc i - 1 ≡ i = omega arith in
    rw (e, f) (take_more (zip (event ∷ run) run) i (d, d) (omega (arith, pairs_size event run, h))
    ∙ ap (λ pair. take i (zip (event ∷ run) run) ++ pair ∷ [])
    (pair_at event run i d (omega (arith, h))))

-- and all of them
pub neighbours_all : (run : List PeriodicEvent) (i : ℕ) → length run ≤ i
    → take (i - 1) (neighbours run) ≡ neighbours run
neighbours_all [] i h = take_all (i - 1) (neighbours []) (omega arith)
neighbours_all (event ∷ run) i h =
    take_all (i - 1) (zip (event ∷ run) run) (omega (arith, pairs_size event run, h))
