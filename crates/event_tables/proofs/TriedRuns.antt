-- The rules of runs on small lists of events and activities.
use Rattle.plan_num.proofs.Common.{◌≡◌, ℕ, pos, List, [], ◌∷◌, map, refl}
use Rattle.event_tables.specs.declared.periodic_activity.PeriodicActivity.{PeriodicActivity}
use Rattle.event_tables.specs.declared.periodic_event.PeriodicEvent.{PeriodicEvent}
use Rattle.event_tables.specs.Cells.{periodic_event, periodic_activity}
use Rattle.event_tables.specs.PeriodicRuns.{runs_of}
use Rattle.event_tables.specs.RunRules.{broken_events, unjoined_events, stray_activities}

-- an event by its id, kind, stop, line and repetition
abbrev on : ℕ → ℕ → ℕ → ℕ → ℕ → PeriodicEvent
on id kind stop line repetition =
    periodic_event (pos id ∷ pos kind ∷ pos stop ∷ pos line ∷ pos 0 ∷ pos repetition ∷ [])

-- an activity by its id, kind, ends and lower bound
abbrev by : ℕ → ℕ → ℕ → ℕ → ℕ → PeriodicActivity
by id kind from to lower =
    periodic_activity (pos id ∷ pos kind ∷ pos from ∷ pos to ∷ pos lower ∷ pos 9 ∷ [])

-- a run over two edges, and one of another line over the second
abbrev events : List PeriodicEvent
events = on 1 0 1 1 1 ∷ on 2 1 2 1 1 ∷ on 3 0 2 1 1 ∷ on 4 1 3 1 1 ∷ on 5 0 2 2 1 ∷ on 6 1 3 2 1
    ∷ []

abbrev ids_of : List PeriodicEvent → List ℕ
ids_of rows = map (λ row. row.id) rows

runs_of_drives :
    (ids_of (broken_events events) ≡ [])
    -- two departures in a row, a run that begins with an arrival, and one of odd length
    × (ids_of (broken_events (on 1 0 1 1 1 ∷ on 2 0 2 1 1 ∷ on 3 0 1 1 2 ∷ on 4 1 2 1 2
    ∷ on 5 1 2 2 1
    ∷ on 6 0 1 3 1 ∷ [])) ≡ 2 ∷ 5 ∷ 6 ∷ [])
    × (ids_of (unjoined_events events (by 1 0 1 2 4 ∷ by 2 1 2 3 1 ∷ by 3 0 3 4 6
    ∷ by 4 0 5 6 6 ∷ [])) ≡ [])
    -- without a wait, with a wait in the place of a drive, and with two drives
    × (ids_of (unjoined_events events (by 1 0 1 2 4 ∷ by 2 1 3 4 6 ∷ by 3 0 5 6 6
    ∷ by 4 0 5 6 6 ∷ []))
    ≡ 2 ∷ 3 ∷ 5 ∷ [])
    -- a drive that skips events, one from an arrival, one at once, a wait of another run, a change
    -- within a
    -- line and one to another stop, and a sync to an arrival; an event that is not there
    × (map (λ (at : PeriodicActivity). at.id) (stray_activities events (by 1 0 1 4 4 ∷ by 2 0 2 3 4
    ∷ by 3 0 1 2 0 ∷ by 4 1 4 5 1 ∷ by 5 2 2 3 1 ∷ by 6 2 4 5 1 ∷ by 7 3 1 2 1 ∷ by 8 0 1 7 1 ∷ []))
    ≡ 1 ∷ 2 ∷ 3 ∷ 4 ∷ 5 ∷ 6 ∷ 7 ∷ 8 ∷ [])
    -- none stray
    × (stray_activities events (by 1 0 1 2 1 ∷ by 2 1 2 3 0 ∷ by 3 2 2 5 0 ∷ by 4 3 5 1 0
    ∷ []) ≡ [])
unfolding runs_of
runs_of_drives = (refl, refl, refl, refl, refl, refl)
