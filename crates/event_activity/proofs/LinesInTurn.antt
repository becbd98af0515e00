-- The events of a line concept stand in turn.
use Rattle.plan_num.proofs.Common.{◌≡◌, ℤ, pos, negsuc, ◌==◌, ◌≤ℤ◌, arith, All, false, List, []}
use Rattle.plan_num.proofs.Common.{◌∷◌, map, unsigned_abs, refl, flat_map, AllByRecursion, int_cmp}
use Rattle.plan_num.proofs.Common.{ints, All-head, All-tail}
use Rattle.std.specs.List.Sorted.{IsStrictlySortedBy}
use Rattle.std.specs.declared.cmp.Ordering.TheVariants.{Less}
use Rattle.line_walks.specs.Pools.{LineParts, IsLine}
use Rattle.walks.proofs.Common.{NetworkParts}
use Rattle.event_activity.specs.Runs.{AreServed, line_events, concept_events}
use Rattle.event_activity.proofs.Crossings.{drive_crosses}
use Rattle.event_activity.proofs.InTurn.{InTurn, Starts, BeginsRun, OnOther, starts_append, line_starts, line_turn, numbered_turn, numbered_starts}

-- ids that differ do so without their signs
unsigned_differ : (low high : ℤ) → pos 1 ≤ℤ low → pos 1 ≤ℤ high → int_cmp low high ≡ Less
    → (unsigned_abs low == unsigned_abs high) ≡ false
unsigned_differ (pos m) (pos n) some more less = grind arith
unsigned_differ (pos m) (negsuc n) some more less = absurd (omega (arith, ints, more))
unsigned_differ (negsuc m) high some more less = absurd (omega (arith, ints, some))

module _ (network : NetworkParts) where
  abbrev IsHere : LineParts → Type 0
  IsHere line = IsLine network.edges line

  -- behind a line stand runs of other lines
  others_start : (line : LineParts) (lines : List LineParts) → IsHere line → All IsHere lines
      → AllByRecursion (λ id. int_cmp line.id id ≡ Less) (map (λ other. other.id) lines)
      → Starts (OnOther network line) (flat_map (line_events network) lines)
  others_start line [] is are less = tt
  others_start line (other ∷ lines) is are less =
      let also : IsHere other = All-head IsHere other lines are in
      starts_append (OnOther network line) (line_events network other)
      (flat_map (line_events network) lines)
      (line_starts network other (OnOther network line) (λ way repetition.
      (refl, unsigned_differ line.id other.id is.id_least also.id_least less.0)))
      (others_start line lines is (All-tail IsHere other lines are) less.1)

  lines_turn : (lines : List LineParts) → All IsHere lines
      → IsStrictlySortedBy int_cmp (map (λ line. line.id) lines)
      → InTurn network (flat_map (line_events network) lines)
  unfolding IsStrictlySortedBy
  lines_turn [] are rise = tt
  lines_turn (line ∷ lines) are rise =
      let is : IsHere line = All-head IsHere line lines are in
      let rest = All-tail IsHere line lines are in
      line_turn network line (drive_crosses network line is) (flat_map (line_events network) lines)
      (others_start line lines is rest rise.0) (lines_turn lines rest rise.1)

  -- the first event of all begins a run
  lines_begin : (lines : List LineParts) → Starts BeginsRun (flat_map (line_events network) lines)
  lines_begin [] = tt
  lines_begin (line ∷ lines) =
      starts_append BeginsRun (line_events network line) (flat_map (line_events network) lines)
      (line_starts network line BeginsRun (λ way repetition. refl)) (lines_begin lines)

module _ (network : NetworkParts) (lines : List LineParts) where
  pub events_turn : AreServed network lines → InTurn network (concept_events network lines)
  unfolding concept_events
  events_turn served = grind (arith, numbered_turn, lines_turn)

  pub events_begin : Starts BeginsRun (concept_events network lines)
  unfolding concept_events
  events_begin = grind (arith, numbered_starts, BeginsRun, lines_begin)
