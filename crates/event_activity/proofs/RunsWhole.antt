-- The runs of events that stand in turn are whole, and what holds of neighbours in the list holds
-- of
-- those in each run.
use Rattle.plan_num.proofs.Common.{◌≡◌, ℕ, zero, suc, ◌+◌, ◌%◌, ◌<◌, arith, Bool, true, false, cond}
use Rattle.plan_num.proofs.Common.{MatchBool, List, [], ◌∷◌, ◌++◌, length, map, filter, refl, ap}
use Rattle.plan_num.proofs.Common.{subst, ◌∙◌, flat_map, enumerate_from, eq-eqb, and_right}
use Rattle.event_tables.specs.declared.periodic_event.PeriodicEvent.{PeriodicEvent}
use Rattle.event_tables.proofs.Common.{event_kind_at, event_kind_place, same_run, before_runs}
use Rattle.event_tables.proofs.Common.{neighbours, breaks, broken_in, broken_events}
use Rattle.event_tables.specs.PeriodicRuns.{runs_of}
use Rattle.walks.proofs.Common.{NetworkParts}
use Rattle.event_activity.specs.declared.run_event.RunEvent.{RunEvent}
use Rattle.event_activity.specs.EanStage.{rows_of}
use Rattle.event_activity.proofs.InTurn.{InTurn, Starts, Onward, EndsRun, BeginsRun}

-- events from a place on that alternate up to the end of their run
abbrev Alternates : ℕ → List PeriodicEvent → Type 0
Alternates place [] = place % 2 ≡ 0
Alternates place (event ∷ run) = (event.kind ≡ event_kind_at (place % 2)) × Alternates
    (place + 1) run

their_place : (n : ℕ) → n < 2 → event_kind_place (event_kind_at n) ≡ n
their_place zero h = refl
their_place (suc zero) h = refl
their_place (suc (suc n)) h = absurd (omega (arith, h))

-- no event of them breaks the run
none_breaks : (size place : ℕ) (run : List PeriodicEvent) → size % 2 ≡ 0 → Alternates place run
    → filter (breaks size) (enumerate_from place run) ≡ []
none_breaks size place [] even turn = refl
none_breaks size place (event ∷ run) even turn =
    grind (arith, their_place, eq-eqb, and_right, none_breaks size (place + 1) run even turn.1)

even_size : (place : ℕ) (run : List PeriodicEvent) → Alternates place run
    → (place + length run) % 2 ≡ 0
even_size place [] turn = omega (arith, turn)
even_size place (event ∷ run) turn = omega (arith, even_size (place + 1) run turn.1)

whole_run : (run : List PeriodicEvent) → Alternates 0 run → broken_in run ≡ []
whole_run run turn = grind (arith, none_breaks, even_size)

module _ (network : NetworkParts) (test : PeriodicEvent × PeriodicEvent → Bool) where
  -- the events of a run that fail with the next one
  abbrev pub failing : List PeriodicEvent → List PeriodicEvent
  failing run = map (λ pair. pair.0) (filter test (neighbours run))

  -- neighbours in a list that agree do not fail
  abbrev pub Agree : List RunEvent → Type 0
  Agree [] = Unit {0}
  Agree (event ∷ []) = Unit {0}
  Agree (event ∷ next ∷ events) =
      (same_run event.row next.row ≡ true → test (event.row, next.row) ≡ false) × Agree (next
      ∷ events)

  -- the first run of some events from its place on, and the runs behind it
  record AreRuns (event : RunEvent) (events : List RunEvent) : Type 0 where
    run : List PeriodicEvent
    runs : List (List PeriodicEvent)
    are : runs_of (rows_of (event ∷ events)) ≡ (event.row ∷ run) ∷ runs
    turn : Alternates event.place (event.row ∷ run)
    joined : filter test (neighbours (event.row ∷ run)) ≡ []
    others_whole : flat_map broken_in runs ≡ []
    others_joined : flat_map failing runs ≡ []

  runs_are : (event : RunEvent) (events : List RunEvent) → InTurn network (event ∷ events)
      → Agree (event ∷ events) → AreRuns event events
  unfolding runs_of
  runs_are event [] turn agree = record {
    run = [];
    runs = [];
    are = refl;
    turn = (turn.0, turn.1);
    joined = refl;
    others_whole = refl;
    others_joined = refl;
  }
  runs_are event (next ∷ events) turn agree =
      let rest = runs_are next events turn.2 agree.1 in
      let cut = ap (before_runs event.row) rest.are in
      elim (same_run event.row next.row) as (λ b. same_run event.row next.row ≡ b
      → MatchBool b (Onward network event next) (EndsRun event × BeginsRun next)
      → AreRuns event (next ∷ events)) [
        | true ↦ λ same onward. record {
          run = next.row ∷ rest.run;
          runs = rest.runs;
          are = cut ∙ ap (λ b. cond b ((event.row ∷ next.row ∷ rest.run) ∷ rest.runs)
              ((event.row ∷ []) ∷ (next.row ∷ rest.run) ∷ rest.runs)) same;
          turn = (
            turn.0,
            subst (λ place. Alternates place (next.row
                ∷ rest.run)) onward.0 rest.turn,
          );
          joined = rw (agree.0 same) rest.joined;
          others_whole = rest.others_whole;
          others_joined = rest.others_joined;
        }
        | false ↦ λ other anew. record {
          run = [];
          runs = (next.row ∷ rest.run) ∷ rest.runs;
          are = cut ∙ ap (λ b. cond b ((event.row ∷ next.row ∷ rest.run) ∷ rest.runs)
              ((event.row ∷ []) ∷ (next.row ∷ rest.run) ∷ rest.runs)) other;
          turn = (turn.0, anew.0);
          joined = refl;
          others_whole = ap (λ all. all ++ flat_map broken_in rest.runs)
              (whole_run (next.row ∷ rest.run)
              (subst (λ place. Alternates place (next.row ∷ rest.run)) anew.1 rest.turn))
              ∙ rest.others_whole;
          others_joined = ap (λ (all : List (PeriodicEvent × PeriodicEvent)).
              map (λ pair. pair.0) all ++ flat_map failing rest.runs) rest.joined
              ∙ rest.others_joined;
        }
      ] refl turn.1

  -- no run of the events is broken, and in none of them does one fail with the next
  pub runs_whole : (events : List RunEvent) → InTurn network events → Starts BeginsRun events
      → Agree events → broken_events (rows_of events) ≡ []
  unfolding runs_of
  runs_whole [] turn first agree = refl
  runs_whole (event ∷ events) turn first agree =
      let all = runs_are event events turn agree in
      ap (flat_map broken_in) all.are
      ∙ ap (λ some. some ++ flat_map broken_in all.runs) (whole_run (event.row ∷ all.run)
      (subst (λ place. Alternates place (event.row ∷ all.run)) first all.turn)) ∙ all.others_whole

  pub runs_joined : (events : List RunEvent) → InTurn network events → Agree events
      → flat_map failing (runs_of (rows_of events)) ≡ []
  unfolding runs_of
  runs_joined [] turn agree = refl
  runs_joined (event ∷ events) turn agree =
      let all = runs_are event events turn agree in grind arith
