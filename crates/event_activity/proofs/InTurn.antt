-- Events that stand in turn: neighbours of one run are at places one after the other, and a new run
-- begins behind a whole one.
use Rattle.plan_num.proofs.Common.{◌≡◌, ℕ, zero, suc, ◌+◌, ◌*◌, ◌%◌, ◌==◌, ◌<◌, ◌≤◌, arith, Bool}
use Rattle.plan_num.proofs.Common.{◌&&◌, true, false, All, MatchBool, List, [], ◌∷◌, ◌++◌, length}
use Rattle.plan_num.proofs.Common.{map, unsigned_abs, refl, subst, sym, flat_map, range_with_len}
use Rattle.plan_num.proofs.Common.{enumerate_from, eq-eqb, ne_eqb, append_assoc, All-nil, All-cons}
use Rattle.std.proofs.lemmas.Bool.{and_left as line_false}
use Rattle.event_tables.specs.declared.direction.Direction.{Direction}
use Rattle.event_tables.proofs.Common.{event_kind_at, same_direction, same_run}
use Rattle.event_tables.specs.declared.direction.Direction.TheVariants as direction
use Rattle.line_walks.specs.Pools.{LineParts}
use Rattle.walks.proofs.Common.{NetworkParts}
use Rattle.event_activity.specs.declared.run_event.RunEvent.{RunEvent}
use Rattle.event_activity.specs.ActivitiesOfRuns.{Crosses}
use Rattle.event_activity.specs.Runs.{run_event, run, runs, line_events, with_id}

-- the kind of an event is that of its place
abbrev pub IsOfPlace : RunEvent → Type 0
IsOfPlace event = event.row.kind ≡ event_kind_at (event.place % 2)

-- an event ends a run, and one begins a run
abbrev pub EndsRun : RunEvent → Type 0
EndsRun event = (event.place + 1) % 2 ≡ 0

abbrev pub BeginsRun : RunEvent → Type 0
BeginsRun event = event.place ≡ 0

-- the first of some events, if there is one
abbrev pub Starts : (RunEvent → Type 0) → List RunEvent → Type 0
Starts P [] = Unit {0}
Starts P (event ∷ events) = P event

module _ (network : NetworkParts) where
  -- an event is the next one of its run, where a departure drives over its edge
  abbrev pub Onward : RunEvent → RunEvent → Type 0
  Onward event next = (next.place ≡ event.place + 1)
      × (event.place % 2 ≡ 0 → Crosses network event.edge event next)

  -- two neighbours
  abbrev pub Follows : RunEvent → RunEvent → Type 0
  Follows event next = MatchBool (same_run event.row next.row) (Onward event next)
      (EndsRun event × BeginsRun next)

  -- an event before others
  abbrev pub GoesOn : RunEvent → List RunEvent → Type 0
  GoesOn event [] = EndsRun event
  GoesOn event (next ∷ events) = Follows event next

  abbrev pub InTurn : List RunEvent → Type 0
  InTurn [] = Unit {0}
  InTurn (event ∷ events) = IsOfPlace event × GoesOn event events × InTurn events

  -- their kinds are those of their places
  pub kinds_of : (events : List RunEvent) → InTurn events → All IsOfPlace events
  kinds_of [] turn = All-nil IsOfPlace
  kinds_of (event ∷ events) turn = All-cons IsOfPlace event events turn.0 (kinds_of events turn.2)

  -- numbers change nothing of it
  pub numbered_turn : (a : ℕ) (events : List RunEvent) → InTurn events
      → InTurn (map with_id (enumerate_from a events))
  numbered_turn a [] turn = tt
  numbered_turn a (event ∷ []) turn = (turn.0, turn.1, tt)
  numbered_turn a (event ∷ next ∷ events) turn =
      (turn.0, turn.1, numbered_turn (a + 1) (next ∷ events) turn.2)

pub numbered_starts : (P : RunEvent → Type 0) (a : ℕ) (events : List RunEvent)
    → ((n : ℕ) (event : RunEvent) → P event → P (with_id (n, event))) → Starts P events
    → Starts P (map with_id (enumerate_from a events))
numbered_starts P a [] keeps first = tt
numbered_starts P a (event ∷ events) keeps first = keeps a event first

-- the first event of one list before another
pub starts_append : (P : RunEvent → Type 0) (front back : List RunEvent) → Starts P front
    → Starts P back
    → Starts P (front ++ back)
starts_append P [] back first second = second
starts_append P (event ∷ front) back first second = first

starts_weaker : (P Q : RunEvent → Type 0) (events : List RunEvent) → ((event : RunEvent)
    → P event → Q event)
    → Starts P events → Starts Q events
starts_weaker P Q [] gives first = tt
starts_weaker P Q (event ∷ events) gives first = gives event first

starts_map : (P : RunEvent → Type 0) (f : ℕ → RunEvent) (a n : ℕ) → P (f a)
    → Starts P (map f (range_with_len a n))
starts_map P f a zero first = tt
starts_map P f a (suc n) first = first

-- ---- tests of runs

one_run : (line repetition : ℕ) (way : Direction)
    → (line == line && same_direction way way && repetition == repetition) ≡ true
one_run line repetition direction.Forward = rw
    (eq-eqb line line refl, eq-eqb repetition repetition refl) refl
one_run line repetition direction.Backward = rw
    (eq-eqb line line refl, eq-eqb repetition repetition refl) refl

last_false : (a b c : Bool) → c ≡ false → (a && b && c) ≡ false
last_false true true c none = none
last_false true false c none = refl
last_false false b c none = refl

first_false : (a b c : Bool) → (a && b) ≡ false → (a && b && c) ≡ false
first_false true true c none = absurd (cc)
first_false true false c none = refl
first_false false b c none = refl

way_false : (a : Bool) → (a && same_direction direction.Forward direction.Backward) ≡ false
way_false true = refl
way_false false = refl

module _ (network : NetworkParts) (line : LineParts) where
  -- an event that begins a run of another direction or line, and one that begins a run of another
  -- line
  abbrev Elsewhere : Direction → RunEvent → Type 0
  Elsewhere way event = BeginsRun event
      × ((unsigned_abs line.id == event.row.line && same_direction way event.row.direction) ≡ false)

  abbrev pub OnOther : RunEvent → Type 0
  OnOther event = BeginsRun event × ((unsigned_abs line.id == event.row.line) ≡ false)

  -- what the first event of each run is, is the first event of all
  runs_start : (P : RunEvent → Type 0) (way : Direction) (a n : ℕ)
      → ((repetition : ℕ) → a ≤ repetition → P (run_event network line way repetition 0))
      → Starts P (flat_map (run network line way) (range_with_len a n))
  runs_start P way a zero each = tt
  runs_start P way a (suc n) each =
      starts_append P (run network line way a) _
      (starts_map P (run_event network line way a) 0 (2 * length line.edges) (each a (omega arith)))
      (runs_start P way (a + 1) n (λ repetition low. each repetition (omega (arith, low))))

  pub line_starts : (P : RunEvent → Type 0)
      → ((way : Direction) (repetition : ℕ) → P (run_event network line way repetition 0))
      → Starts P (line_events network line)
  line_starts P each =
      starts_append P (runs network line direction.Forward) (runs network line direction.Backward)
      (runs_start P direction.Forward 1 line.frequency
      (λ repetition low. each direction.Forward repetition))
      (runs_start P direction.Backward 1 line.frequency
      (λ repetition low. each direction.Backward repetition))

  module _ (crosses : (way : Direction) (repetition place : ℕ) → place + 1 < 2 * length line.edges
      → place % 2 ≡ 0 → Crosses network (run_event network line way repetition place).edge
      (run_event network line way repetition place) (run_event network line way repetition
      (place + 1))) where
    module _ (way : Direction) (repetition : ℕ) where
      abbrev at : ℕ → RunEvent
      at place = run_event network line way repetition place

      abbrev Another : RunEvent → Type 0
      Another event = BeginsRun event × (same_run (at 0).row event.row ≡ false)

      next_follows : (place : ℕ) → place + 1 < 2 * length line.edges
          → Follows network (at place) (at (place + 1))
      next_follows place inside =
          subst (λ b. MatchBool b (Onward network (at place) (at (place + 1)))
          (EndsRun (at place) × BeginsRun (at (place + 1))))
          (sym (one_run (unsigned_abs line.id) repetition way))
          (refl, crosses way repetition place inside)

      last_goes : (place : ℕ) (rest : List RunEvent) → place + 1 ≡ 2 * length line.edges
          → Starts Another rest → GoesOn network (at place) rest
      last_goes place [] ends first = omega (arith, ends)
      last_goes place (event ∷ rest) ends first = grind arith

      -- a run before others
      run_turn : (a n : ℕ) (rest : List RunEvent) → a + n ≡ 2 * length line.edges
          → Starts Another rest
          → InTurn network rest → InTurn network (map at (range_with_len a n) ++ rest)
      run_turn a zero rest ends first turn = turn
      run_turn a (suc zero) rest ends first turn =
          (refl, last_goes a rest (omega (arith, ends)) first, turn)
      run_turn a (suc (suc n)) rest ends first turn =
          grind (
            arith,
            next_follows,
            run_turn (a + 1) (suc n) rest (omega (arith, ends)) first turn,
          )

    -- the runs in a direction before others
    runs_turn : (way : Direction) (a n : ℕ) (rest : List RunEvent) → Starts (Elsewhere way) rest
        → InTurn network rest
        → InTurn network (flat_map (run network line way) (range_with_len a n) ++ rest)
    runs_turn way a zero rest first turn = turn
    runs_turn way a (suc n) rest first turn =
        let more = flat_map (run network line way) (range_with_len (a + 1) n) in
        subst (InTurn network) (sym (append_assoc (run network line way a) more rest))
        (run_turn way a 0 (2 * length line.edges) (more ++ rest) (omega arith)
        (starts_append (Another way a) more rest
        (runs_start (Another way a) way (a + 1) n (λ repetition low. (
          refl,
          last_false (unsigned_abs line.id == unsigned_abs line.id) (same_direction way way)
              (a == repetition) (ne_eqb a repetition (λ e. omega (arith, e, low))),
        )))
        (starts_weaker (Elsewhere way) (Another way a) rest
        (λ event other. (
          other.0,
          first_false (unsigned_abs line.id == event.row.line)
              (same_direction way event.row.direction) (a == event.row.repetition) other.1,
        )) first))
        (runs_turn way (a + 1) n rest first turn))

    -- the runs of a line before those of others
    pub line_turn : (rest : List RunEvent) → Starts OnOther rest → InTurn network rest
        → InTurn network (line_events network line ++ rest)
    line_turn rest first turn =
        let forth = runs network line direction.Forward in
        let back = runs network line direction.Backward in
        subst (InTurn network) (sym (append_assoc forth back rest))
        (runs_turn direction.Forward 1 line.frequency (back ++ rest)
        (starts_append (Elsewhere direction.Forward) back rest
        (runs_start (Elsewhere direction.Forward) direction.Backward 1 line.frequency
        (λ repetition low. (refl, way_false (unsigned_abs line.id == unsigned_abs line.id))))
        (starts_weaker OnOther (Elsewhere direction.Forward) rest
        (λ event other. (
          other.0,
          line_false (unsigned_abs line.id == event.row.line)
              (same_direction direction.Forward event.row.direction) other.1,
        )) first))
        (runs_turn direction.Backward 1 line.frequency rest
        (starts_weaker OnOther (Elsewhere direction.Backward) rest
        (λ event other. (
          other.0,
          line_false (unsigned_abs line.id == event.row.line)
              (same_direction direction.Backward event.row.direction) other.1,
        )) first) turn))
