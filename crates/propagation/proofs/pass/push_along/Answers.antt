use Rattle.plan_num.proofs.Common.{◌∙◌, ◌+◌, ◌*◌, ◌≤◌, None, ℕ, Vec, ap, sym, subst, drop, length}
use Rattle.plan_num.proofs.Common.{All, arith, length-set}
use Rattle.propagation.specs.Links.{pushed_along}
use Rattle.propagation.proofs.Passing.{head_soon, link_counts, link_passed, still_soon}
use Rattle.propagation.proofs.pass.push_along.Goals.{then-counts, else-counts}
use Rattle.propagation.proofs.pass.push_along.Goals as goal

pub loop-link-preserved : goal.loop-link-preserved
loop-link-preserved c =
    let kept = c.args.kept.now in
    let links = c.args.links.now in
    let times = c.loop-link.times.items in
    let i = c.loop-link.link-index in
    elim c.if-counts.branch [
      | then-counts w ↦ (
          let ends = c.requires.ends i (record {
            rank =
                0;
            step = record { from = 0; to = 0; lower = 0; extra = 0 };
            change = None;
          }) c.loop-link-test.true in
          let is = ap (λ (v : Vec ℕ _). v.items) w.times-is ∙ w.push_head.ensures.times in
          record {
            told = ap (pushed_along kept (drop (i + 1) links)) is
                ∙ link_counts kept links times i _ c.loop-link-test.true (sym c.counts.ensures ∙ w.if-counts.true)
                ∙ c.loop-link.invariant.told;
            each = ap length is ∙ length-set times _ _ ∙ c.loop-link.invariant.each;
            soon = subst (All (λ time. time ≤ 8589934590 + (i + 1) * 8589934590)) (sym is)
                (head_soon i times _ w.push_head.ensures.few (omega (arith, ends.0, c.loop-link.invariant.each))
                (omega (arith, ends.1, c.loop-link.invariant.each)) c.loop-link.invariant.soon);
          })
      | else-counts w ↦ rw w.times-is (record {
        told = link_passed kept links times i _ c.loop-link-test.true (sym c.counts.ensures ∙ w.if-counts.false)
            ∙ c.loop-link.invariant.told;
        each = c.loop-link.invariant.each;
        soon = still_soon i times c.loop-link.invariant.soon;
      })
    ]
