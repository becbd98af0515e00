use Rattle.plan_num.proofs.Common.{◌≡◌, ◌-◌, ◌<◌, ◌≤◌, arith, subst, sym, take, get_or, length, ap}
use Rattle.plan_num.proofs.Common.{set, ◌∙◌, slice_get-get_or, false, slice_get, Some, pos, ◌+ℤ◌}
use Rattle.pesp_judge.specs.Regions.{Waits, IsLeft}
use Rattle.pesp_judge.proofs.Ways.{no_split, last_kept, second_of_kept, waits_none}
use Rattle.pesp_judge.proofs.region.go_on.Goals as goal

pub returns-then-kept-eq0-clause-next : goal.returns-then-kept-eq0-clause-next
returns-then-kept-eq0-clause-next c = λ period cycles slacks waits.
    let path = c.deref.result.now in
    let left = c.waiting-kept.ensures.left period cycles slacks
    (subst (Waits period cycles slacks) (sym c.deref.ensures.value) waits) in
    waits_none period cycles slacks
    (subst (λ n. Waits period cycles slacks (take n path)) c.if-kept-eq0.true left)

pub returns-clause-next : goal.returns-clause-next
returns-clause-next c = λ period cycles slacks waits.
    let path = c.args.path.now.items in
    let same : c.deref.result.now ≡ path = c.deref.ensures.value in
    let kept = c.waiting-kept.result in
    let some : 0 < kept = omega (arith, c.if-kept-eq0.false) in
    let within : kept ≤ length path =
    subst (λ path. kept ≤ length path) same c.waiting-kept.ensures.within in
    let left : Waits period cycles slacks (take kept path) =
    subst (λ path. Waits period cycles slacks (take kept path)) same
    (c.waiting-kept.ensures.left period cycles slacks
    (subst (Waits period cycles slacks) (sym same) waits)) in
    let split = get_or path (kept - 1) no_split in
    let first : split.least ≡ false = c.waiting-kept.ensures.last split some
    (subst (λ items. slice_get items (kept - 1) ≡ Some split) (sym same)
    (slice_get-get_or path (kept - 1) no_split (omega (arith, some, within)))) in
    let is : c.index.result.now ≡ split =
    last_kept path c.truncate.new.self.items kept c.index.result.now some within
    c.truncate.ensures.items c.index.ensures in
    let next = c.in_ok-path.ensures in
    subst (λ kept_items. IsLeft period cycles slacks (set kept_items (kept - 1) c.in_ok-path.field-0))
    (sym c.truncate.ensures.items)
    (second_of_kept period cycles slacks path kept c.in_ok-path.field-0 some within first
    (next.0 ∙ ap (λ split. split.cycle) is) next.1
    (next.2 ∙ ap (λ split. split.periods +ℤ pos 1) is) left)
