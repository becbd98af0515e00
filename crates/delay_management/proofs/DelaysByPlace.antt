-- The delays of things by their places.
use Rattle.plan_num.proofs.Common.{◌≡◌, ◌∙◌, ℕ, ◌+◌, ◌-◌, ◌<◌, Bool, true, false, eqb, List, []}
use Rattle.plan_num.proofs.Common.{◌∷◌, length, map, filter, drop, get_or, slice_set, replicate}
use Rattle.plan_num.proofs.Common.{refl, sym, arith, range_with_len, eq-eqb, ne_eqb, drop_more}
use Rattle.plan_num.proofs.Common.{ext_get_or, get_or-replicate, length-replicate}
use Rattle.plan_num.proofs.Common.{get_or-map-range_with_len, length-map-range_with_len}
use Rattle.event_tables.specs.declared.delay_row.DelayRow.{DelayRow}
use Rattle.event_tables.specs.declared.expanded_activity.ExpandedActivity.{ExpandedActivity}
use Rattle.event_tables.specs.declared.expanded_event.ExpandedEvent.{ExpandedEvent}
use Rattle.event_tables.proofs.Common.{AreNumbered, IsOneOf, id_at}
use Rattle.propagation.specs.declared.step.Activity.{Activity}
use Rattle.delay_management.specs.InputProblems.{delay_of, delayed, earliest_of, is_of}
use Rattle.bit_rows.proofs.Places.{told_anew}

abbrev pub by_place : ℕ → List DelayRow → List ℕ
by_place count rows = map (delay_of rows) (range_with_len 1 count)

nothing : (id : ℕ) → delay_of [] id ≡ 0
unfolding delay_of
nothing id = refl

own : (row : DelayRow) (rows : List DelayRow) (id : ℕ) → eqb row.id id ≡ true
    → delay_of (row ∷ rows) id ≡ row.delay
unfolding delay_of
own row rows id is = rw is refl

other : (row : DelayRow) (rows : List DelayRow) (id : ℕ) → eqb row.id id ≡ false
    → delay_of (row ∷ rows) id ≡ delay_of rows id
unfolding delay_of
other row rows id is = rw is refl

-- no rows, no delays
pub none_placed : (count : ℕ) → replicate count 0 ≡ by_place count []
none_placed count =
    ext_get_or 0 (replicate count 0) (by_place count [])
    (length-replicate {A = ℕ} count 0 ∙ sym (length-map-range_with_len (delay_of []) 1 count))
    (λ k within. let inside : k < count = omega (arith, within, length-replicate {A = ℕ} count 0) in
    grind (arith, get_or-replicate, get_or-map-range_with_len, nothing))

-- a row before others
pub more_placed : (count : ℕ) (row : DelayRow) (rows : List DelayRow) → IsOneOf count row.id
    → slice_set (by_place count rows) (row.id - 1) row.delay ≡ by_place count (row ∷ rows)
more_placed count row rows one = grind (arith, told_anew, own, eq-eqb, other, ne_eqb)

-- the delay of what stands at a place
pub placed : (count : ℕ) (rows : List DelayRow) (delays : List ℕ) (i id d : ℕ)
    → delays ≡ by_place count rows → i < count → id ≡ i + 1 → get_or delays i d ≡ delay_of rows id
placed count rows delays i id d are inside is = grind (arith, get_or, get_or-map-range_with_len)

-- ---- one event more, and one activity more

module _ (rows : List DelayRow) (delays : List ℕ) (i : ℕ) where
  pub event_more : (events : List ExpandedEvent) (d : ExpandedEvent) (delay : ℕ)
      → delay ≡ get_or delays i delay → AreNumbered (λ event. event.id) events → delays ≡ by_place (length events) rows
      → i < length events
      → map (earliest_of rows) (drop i events)
      ≡ ((get_or events i d).time + delay) ∷ map (earliest_of rows) (drop (i + 1) events)
  event_more events d delay told are is inside = grind (arith, drop_more, get_or, placed, id_at)

  module _ (changes : Bool) (activities : List ExpandedActivity) (d : ExpandedActivity)
      (are : AreNumbered (λ activity. activity.id) activities)
      (is : delays ≡ by_place (length activities) rows) (inside : i < length activities) where
    abbrev rest_from : ℕ → List Activity
    rest_from i = map (delayed rows) (filter (is_of changes) (drop i activities))

    pub activity_left_out : is_of changes (get_or activities i d) ≡ false
        → rest_from i ≡ rest_from (i + 1)
    activity_left_out out = grind (arith, drop_more, get_or)

    pub activity_more : (delay : ℕ) → delay ≡ get_or delays i delay
        → is_of changes (get_or activities i d) ≡ true
        → rest_from i ≡ record {
          id = (get_or activities i d).id;
          step = record {
            from = (get_or activities i d).from - 1;
            to = (get_or activities i d).to - 1;
            lower = (get_or activities i d).lower;
            extra = delay;
          };
        } ∷ rest_from (i + 1)
    activity_more delay told there = grind (arith, get_or, drop_more, placed, id_at)
