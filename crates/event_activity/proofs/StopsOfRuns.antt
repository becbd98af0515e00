-- The stop and the edge at a place of a run.
use Rattle.plan_num.proofs.Common.{◌≡◌, ℕ, ℤ, pos, negsuc, ◌+◌, ◌*◌, ◌/◌, ◌<◌, ◌≤◌, ◌≤ℤ◌, arith}
use Rattle.plan_num.proofs.Common.{List, length, get_or, ap, subst, sym, ◌∙◌, Some, slice_get}
use Rattle.plan_num.proofs.Common.{unsigned_abs, ints, All-get_or, slice_get-get_or, same_Some}
use Rattle.event_tables.specs.declared.direction.Direction.{Direction}
use Rattle.line_walks.specs.Pools.{LineParts, IsLine}
use Rattle.walks.proofs.Common.{NetworkParts}
use Rattle.event_activity.specs.Fitting.{IsId}
use Rattle.event_activity.specs.Runs.{AreServed, along, no_line, line_at, stop_id}
use Rattle.event_activity.proofs.Along.{all_along, length-along, stops_inside}

-- a number from 1 on without its sign
pub unsigned_some : (z : ℤ) → pos 1 ≤ℤ z → 1 ≤ unsigned_abs z
unsigned_some (pos n) low = omega (arith, ints)
unsigned_some (negsuc n) low = absurd (omega (arith, ints))

-- an id without its sign is one
pub id_within : (z : ℤ) → pos 1 ≤ℤ z → z ≤ℤ pos 1000000000 → IsId (unsigned_abs z)
id_within z low high = grind arith

module _ (network : NetworkParts) (lines : List LineParts) (served : AreServed network lines)
    (line place : ℕ) (h : line < length lines)
    (inside : place < 2 * length (line_at lines line).edges) (way : Direction) where
  line_is : IsLine network.edges (line_at lines line)
  line_is = All-get_or (IsLine network.edges) lines line no_line h served.lines_are.each

  -- there is a stop at the place
  pub stop_place : (place + 1) / 2 < length (line_at lines line).stops
  stop_place = grind arith

  -- which is one of the network
  pub stop_inside : get_or (along way (line_at lines line).stops) ((place + 1) / 2) 0
      < length network.stops
  stop_inside =
      All-get_or (λ stop. stop < length network.stops) (along way (line_at lines line).stops)
      ((place + 1) / 2) 0 (omega (arith, stop_place, length-along way (line_at lines line).stops))
      (all_along (λ stop. stop < length network.stops) way (line_at lines line).stops
      (stops_inside network (line_at lines line) served.network_is line_is))

  -- and has an id
  pub stop_within : IsId (stop_id network (get_or (along way (line_at lines line).stops)
      ((place + 1) / 2) 0))
  stop_within = grind (arith, All-get_or, stop_inside, id_within)

-- the id of a stop that is there
pub stop_is : (network : NetworkParts) (stop : ℕ) (id : ℤ) → stop < length network.stops
    → slice_get network.stops stop ≡ Some id → unsigned_abs id ≡ stop_id network stop
stop_is network stop id h is =
    ap unsigned_abs (same_Some _ _ (sym is ∙ slice_get-get_or network.stops stop (pos 0) h))

module _ (network : NetworkParts) (lines : List LineParts) (served : AreServed network lines)
    (line place : ℕ) (h : line < length lines)
    (inside : place < 2 * length (line_at lines line).edges) (way : Direction) (stops : List ℕ)
    (are : stops ≡ (line_at lines line).stops) (stop : ℕ)
    (at : stop ≡ get_or (along way stops) ((place + 1) / 2) 0) where
  at_line : stop ≡ get_or (along way (line_at lines line).stops) ((place + 1) / 2) 0
  at_line = at ∙ ap (λ some. get_or (along way some) ((place + 1) / 2) 0) are

  -- a stop that is found there is one of the network, and its id fits and is that of the place
  pub found_inside : stop < length network.stops
  found_inside = subst (λ one. one < length network.stops) (sym at_line)
      (stop_inside network lines served line place h inside way)

  pub found_id : (id : ℤ) → slice_get network.stops stop ≡ Some id
      → unsigned_abs id ≡ stop_id network (get_or (along way (line_at lines line).stops)
      ((place + 1) / 2) 0)
  found_id id is = stop_is network stop id found_inside is ∙ ap (stop_id network) at_line

  pub found_fits : (id : ℤ) → slice_get network.stops stop ≡ Some id
      → unsigned_abs id ≤ 1000000000
  found_fits id is =
      omega (arith, found_id id is, (stop_within network lines served line place h inside way).1)
