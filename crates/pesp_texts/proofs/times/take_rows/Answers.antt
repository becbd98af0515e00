use Rattle.plan_num.proofs.Common.{◌≡◌, ◌∷◌, subst, MatchBool, []}
use Rattle.pesp_texts.specs.declared.times.TheConstants.{NONE}
use Rattle.pesp_texts.specs.Texts.{AreTimed}
use Rattle.pesp_texts.proofs.Timing.{timed_more}
use Rattle.pesp_texts.proofs.times.take_rows.Goals as goal

pub rows-preserved : goal.rows-preserved
rows-preserved c =
    let row = c.next_row.new.row in
    let left = c.next_row.new.self in
    let names = c.args.instance.now.names.keys in
    let period = c.args.instance.now.weighted.period in
    let next : c.rows.rows ≡ row ∷ left =
    subst (λ found. MatchBool found (c.rows.rows ≡ row ∷ left) (c.rows.rows ≡ []))
    c.if-branch.true c.in_ok-next_row.ensures in
    timed_more names period NONE c.args.rows.now left row c.rows.times c.take_row.new.times
    (subst (λ rows. AreTimed names period NONE c.args.rows.now rows c.rows.times) next
    c.rows.invariant) c.in_default.ensures
