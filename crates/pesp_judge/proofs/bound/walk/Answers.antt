use Rattle.plan_num.proofs.Common.{◌≡◌, ◌++◌, ◌∷◌, [], ◌<◌, arith, subst, sym, length, All-push}
use Rattle.pesp_judge.specs.Trees.{AreLeft, AreSplits}
use Rattle.pesp_judge.proofs.Regions.{left_in_parts}
use Rattle.pesp_judge.proofs.bound.walk.Goals as goal

pub rows-preserved-in-Split : goal.rows-preserved-in-Split
rows-preserved-in-Split c =
    let tree = c.args.tree in
    let count = length tree.cycles.now in
    let path = c.rows.path.items in
    let split = c.in_ok-split_of-in-Split.field-0 in
    let is = c.in_ok-split_of-in-Split.ensures in
    let before = c.rows.invariant in
    let pushed : c.push.new.self.items ≡ path ++ split ∷ [] =
    grind (arith, c.push.ensures.items, c.in_ok-push-in-Split.was) in
    record {
      size = before.size;
      path = subst (AreSplits count) (sym pushed)
          (All-push (λ split. split.cycle < count) path split before.path is.0);
      left = subst (λ path. AreLeft tree.weighted.now tree.cycles.now path tree.claim) (sym pushed)
          (left_in_parts tree.weighted.now tree.cycles.now tree.claim c.requires.problem
          c.requires.cycles path split is.0 is.1 before.left);
    }
