use Rattle.plan_num.proofs.Common.{◌≡◌, ◌∷◌, subst, sym, MatchBool, []}
use Rattle.pesp_texts.specs.Texts.{AreRead}
use Rattle.pesp_texts.proofs.Reading.{read_more}
use Rattle.pesp_texts.proofs.instance.take_rows.Goals as goal

pub rows-preserved : goal.rows-preserved
rows-preserved c =
    let row = c.next_row.new.row in
    let left = c.next_row.new.self in
    let is = c.in_ok-activity_of.ensures in
    let next : c.rows.rows ≡ row ∷ left =
    subst (λ found. MatchBool found (c.rows.rows ≡ row ∷ left) (c.rows.rows ≡ []))
    c.if-branch.true c.in_ok-next_row.ensures in
    subst (λ items. AreRead c.activity_of.new.names.keys items c.args.rows.now left)
    (sym c.in_ok-push.ensures.items)
    (read_more c.rows.names.keys c.activity_of.new.names.keys c.rows.activities.items
    c.args.rows.now left row c.in_ok-activity_of.field-0 is.extends
    (subst (AreRead c.rows.names.keys c.rows.activities.items c.args.rows.now) next
    c.rows.invariant) is.row)
