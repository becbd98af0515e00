use Rattle.plan_num.proofs.Common.{◌≡◌, ◌∙◌, ◌<◌, ℕ, arith, get_or, refl, subst, sym}
use Rattle.plan_num.proofs.Common.{get_or_default_zero}
use Rattle.pesp.specs.Cycles.{AreLater}
use Rattle.pesp.proofs.Classed.{around, joined, place_set, placed_at, shifts_set, small}
use Rattle.pesp.proofs.cycles.Classes.join.Goals as goal

pub returns-then-far-near : goal.returns-then-far-near
returns-then-far-near c =
    let problem = c.args.self.now.pesp.now in
    let classes = c.args.self.now in
    let so = c.requires.classes in
    let tie = c.requires.tie in
    let near = c.index-near.result.now in
    let far = c.index-far.result.now in
    let first : ℕ = near.first in
    let near_so = placed_at problem classes so c.args.tie.from near tie.from c.index-near.ensures in
    let far_so = placed_at problem classes so c.args.tie.to far tie.to c.index-far.ensures in
    let before : c.index.result.now ≡ get_or classes.shifts.items first 0 =
    c.index.ensures ∙ get_or_default_zero classes.shifts.items first c.index.result.now
    (omega (arith, near_so.inside, so.shifts)) in
    let old = subst (AreLater problem first first) (sym before) (so.around first near_so.inside) in
    let new = around problem classes so c.args.tie tie near far near_so far_so c.if-far-near.true in
    shifts_set problem classes so first c.common.result near_so.inside
    (λ left all. c.common.ensures.repeats problem.period (left first) so.sound.some (old left all)
    (new left all))
    (c.common.ensures.few problem.period
    (subst (λ n. n < problem.period) (sym before) (so.few_around first near_so.inside))
    (small problem classes so _))
    _ refl

pub returns-in_ok-push : goal.returns-in_ok-push
returns-in_ok-push c =
    let problem = c.args.self.now.pesp.now in
    let classes = c.args.self.now in
    let so = c.requires.classes in
    let tie = c.requires.tie in
    let near_so = placed_at problem classes so c.args.tie.from c.index-near.result.now tie.from
    c.index-near.ensures in
    let far_so = placed_at problem classes so c.args.tie.to c.index-far.result.now tie.to
    c.index-far.ensures in
    place_set problem classes so c.args.tie.to _ tie.to
    (joined problem classes so c.args.tie tie c.index-near.result.now c.index-far.result.now near_so
    far_so) _ refl c.push.new.self c.in_ok-push.ensures.items
