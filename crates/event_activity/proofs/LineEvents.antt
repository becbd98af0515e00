-- The events of a line, and how many there are.
use Rattle.plan_num.proofs.Common.{◌≡◌, ℕ, ◌+◌, ◌*◌, ◌<◌, ◌≤◌, arith, List, length, map, take, ap}
use Rattle.plan_num.proofs.Common.{sym, ◌∙◌, Some, option_map, slice_get, flat_map, enumerate_from}
use Rattle.plan_num.proofs.Common.{slice_get-get_or, same_Some, length-append, length-map, take_all}
use Rattle.plan_num.proofs.Common.{length-map-range_with_len, length-enumerate_from, mul-le}
use Rattle.event_tables.specs.declared.direction.Direction.{Direction}
use Rattle.event_tables.specs.declared.direction.Direction.TheVariants as direction
use Rattle.line_walks.specs.Pools.{LineParts}
use Rattle.walks.proofs.Common.{NetworkParts}
use Rattle.event_activity.specs.declared.run_event.RunEvent.{RunEvent}
use Rattle.event_activity.specs.Runs.{AreServed, no_line, line_at, runs, line_events, with_id, concept_events}
use Rattle.plan_num.proofs.Added.{parts_size}

-- what a pool tells of the line at a place
pub told_of : {A : Type 0} (field : LineParts → A) (lines : List LineParts) (line : ℕ) (x : A)
    → line < length lines → option_map field (slice_get lines line) ≡ Some x
    → x ≡ field (line_at lines line)
told_of field lines line x h has =
    same_Some _ _ (sym has ∙ ap (option_map field) (slice_get-get_or lines line no_line h))

module _ (network : NetworkParts) (line : LineParts) where
  runs_size : (way : Direction)
      → length (runs network line way) ≡ line.frequency * (2 * length line.edges)
  runs_size way = grind (arith, parts_size, length-map-range_with_len)

  sums : (n e : ℕ) → n * (2 * e) + n * (2 * e) ≡ 4 * e * n
  sums n e = grind arith

  -- two events for each edge, in each run of both directions
  pub line_size : length (line_events network line) ≡ 4 * length line.edges * line.frequency
  line_size = grind (arith, length-append, runs_size, sums)

-- a line has not too many events
pub line_few : (network : NetworkParts) (lines : List LineParts) (line edges frequency : ℕ)
    → AreServed network lines → line < length lines → edges ≡ length (line_at lines line).edges
    → frequency ≡ (line_at lines line).frequency → 4 * edges * frequency ≤ 4000000
line_few network lines line edges frequency served h some often = grind arith

-- what is counted of a line is the number of its events
pub line_counted : (network : NetworkParts) (lines : List LineParts) (line edges frequency : ℕ)
    → edges ≡ length (line_at lines line).edges → frequency ≡ (line_at lines line).frequency
    → 4 * edges * frequency ≡ length (line_events network (line_at lines line))
line_counted network lines line edges frequency some often = grind (arith, line_size)

-- numbers change nothing of how many there are
pub numbered_size : {X Y : Type 0} (f : ℕ × X → Y) (xs : List X)
    → length (map f (enumerate_from 1 xs)) ≡ length xs
numbered_size f xs = length-map (enumerate_from 1 xs) f ∙ length-enumerate_from 1 xs

module _ (network : NetworkParts) (lines : List LineParts) where
  -- the events of all lines are counted
  pub events_counted : (count i : ℕ) → length lines ≤ i
      → count ≡ length (flat_map (line_events network) (take i lines))
      → count ≡ length (concept_events network lines)
  unfolding concept_events
  events_counted count i done told = grind (arith, take_all, numbered_size)

  -- those of all lines are there, and there are not too many
  pub events_few : (events : List RunEvent) (i : ℕ) → length lines ≤ i
      → events ≡ flat_map (line_events network) (take i lines)
      → length (concept_events network lines) ≤ 4000 → length events ≤ 4000
  events_few events i done told few =
      omega (arith, events_counted (length events) i done (ap length told), few)

  pub events_told : (events numbered : List RunEvent) (i : ℕ) → length lines ≤ i
      → events ≡ flat_map (line_events network) (take i lines)
      → numbered ≡ map with_id (enumerate_from 1 events) → numbered ≡ concept_events network lines
  unfolding concept_events
  events_told events numbered i done told is = grind (arith, take_all)
