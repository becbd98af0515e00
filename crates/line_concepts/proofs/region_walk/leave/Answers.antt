use Rattle.std.proofs.Common.{◌≡◌, ◌-◌, ◌∙◌, ◌++◌, ◌∷◌, [], List, length, slice_get, take, vec_len}
use Rattle.std.proofs.Common.{ap, sym, arith}
use Rattle.line_cost_model.specs.Regions.{RegionParts}
use Rattle.line_concepts.specs.declared.region_walk.OpenSplit.{OpenSplit}
use Rattle.line_concepts.proofs.Walking.{last_apart, none_waits, open_split, others_are_open}
use Rattle.line_concepts.proofs.Walking.{part_closed, size_stays, upper_entered, upper_is_open}
use Rattle.line_concepts.proofs.region_walk.leave.Goals as goal

ranges_of : {region now : RegionParts} → now ≡ region → now.ranges ≡ region.ranges
ranges_of is = ap (λ (region : RegionParts). region.ranges) is

last_found : (items some : List OpenSplit) → some ≡ items
    → slice_get items (length items - 1) ≡ slice_get some (length some - 1)
last_found items some same = ap (λ some. slice_get some (length some - 1)) (sym same)

pub returns-then-split-clause-waiting : goal.returns-then-split-clause-waiting
returns-then-split-clause-waiting c =
    let items = c.loop-split.splits.items in
    let others = take (length items - 1) items in
    let split = c.in-Some.split in
    let are = last_apart items split (last_found _ _ c.deref.ensures.value ∙ sym c.in-Some.ensures)
    in
    upper_entered items others split c.loop-split.region.ranges c.set_range.new.self.ranges are
    c.turn_last.new.splits.items c.if-split.true (ranges_of c.set_range.ensures)
    (c.turn_last.ensures others split are)
    ∙ c.loop-split.invariant.waiting

pub returns-then-split-clause-open : goal.returns-then-split-clause-open
returns-then-split-clause-open c =
    let items = c.loop-split.splits.items in
    let others = take (length items - 1) items in
    let split = c.in-Some.split in
    let are = last_apart items split (last_found _ _ c.deref.ensures.value ∙ sym c.in-Some.ensures)
    in
    upper_is_open items others split c.loop-split.region.ranges c.set_range.new.self.ranges are
    c.turn_last.new.splits.items c.loop-split.invariant.still
    (size_stays c.loop-split.region.ranges c.set_range.new.self.ranges _ _ _
    (ranges_of c.set_range.ensures))
    (c.turn_last.ensures others split are)

pub set_range-requires-in-Some-clause-there : goal.set_range-requires-in-Some-clause-there
set_range-requires-in-Some-clause-there c =
    let items = c.loop-split.splits.items in
    let ranges = c.loop-split.region.ranges in
    let are = last_apart items c.in-Some.split (last_found _ _ c.deref.ensures.value
    ∙ sym c.in-Some.ensures) in
    (open_split items (take (length items - 1) items) c.in-Some.split ranges ranges are
    c.loop-split.invariant.still).there

pub set_range-requires-in-Some-clause-in_order : goal.set_range-requires-in-Some-clause-in_order
set_range-requires-in-Some-clause-in_order c =
    let items = c.loop-split.splits.items in
    let ranges = c.loop-split.region.ranges in
    let are = last_apart items c.in-Some.split (last_found _ _ c.deref.ensures.value
    ∙ sym c.in-Some.ensures) in
    let own = open_split items (take (length items - 1) items) c.in-Some.split ranges ranges are
    c.loop-split.invariant.still in
    omega (arith, own.low, own.high)

pub set_range-requires-in-Some-clause-few : goal.set_range-requires-in-Some-clause-few
set_range-requires-in-Some-clause-few c =
    let items = c.loop-split.splits.items in
    let ranges = c.loop-split.region.ranges in
    let are = last_apart items c.in-Some.split (last_found _ _ c.deref.ensures.value
    ∙ sym c.in-Some.ensures) in
    (open_split items (take (length items - 1) items) c.in-Some.split ranges ranges are
    c.loop-split.invariant.still).few

pub loop-split-preserved : goal.loop-split-preserved
loop-split-preserved c =
    let items = c.loop-split.splits.items in
    let left = c.pop.new.self.items in
    let split = c.in-Some.split in
    let ranges = c.loop-split.region.ranges in
    let now = c.set_range-in-Some in
    let long : vec_len c.loop-split.splits ≡ length items = omega (arith, c.loop-split.splits.ok) in
    let are = last_apart items split (last_found _ _ c.deref.ensures.value ∙ sym c.in-Some.ensures)
    ∙ ap (λ count. take (count - 1) items ++ split ∷ []) (sym long)
    ∙ ap (λ some. some ++ split ∷ []) (sym c.pop.ensures.rest) in
    let same = size_stays ranges now.new.self.ranges _ _ _ (ranges_of now.ensures) in
    record {
      waiting = part_closed items left split ranges now.new.self.ranges are c.if-split.false
          (ranges_of now.ensures) ∙ c.loop-split.invariant.waiting;
      problem = ap (λ (region : RegionParts). region.problem) now.ensures
          ∙ c.loop-split.invariant.problem;
      size = same ∙ c.loop-split.invariant.size;
      still = others_are_open items left split ranges now.new.self.ranges are
          c.loop-split.invariant.still same;
    }

pub returns-clause-waiting : goal.returns-clause-waiting
returns-clause-waiting c =
    sym c.loop-split.invariant.waiting
    ∙ none_waits c.loop-split.splits.items c.loop-split.region.ranges
    (last_found _ _ c.deref.ensures.value ∙ sym c.in_default.ensures)
