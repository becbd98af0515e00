use Rattle.plan_num.proofs.Common.{◌<◌, [], length, ap, sym, ◌∙◌, subst, arith, map, get_or-map}
use Rattle.plan_num.proofs.Common.{length-map}
use Rattle.link_plans.specs.Links.{links_in}
use Rattle.link_plans.specs.LinkRows.{IsRow}
use Rattle.link_plans.proofs.link_table.LinkTable.row.Goals as goal

pub returns-clause-row : goal.returns-clause-row
returns-clause-row c =
    let lists = map (λ row. row.items) c.self.inside.rows.items in
    let within : c.args.trip < length lists =
    subst (λ rows. c.args.trip < length rows) (sym c.self.view_is) c.requires in
    let inside : c.args.trip < length c.self.inside.rows.items = omega (
      arith,
      within,
      length-map c.self.inside.rows.items (λ row. row.items),
    ) in
    subst (λ rows. IsRow (links_in rows) c.args.trip (length rows) c.deref.result.now)
    c.self.view_is
    (subst (IsRow (links_in lists) c.args.trip (length lists))
    (get_or-map (λ row. row.items) c.self.inside.rows.items c.args.trip c.index.result.now [] inside
    ∙ ap (λ row. row.items) (sym c.index.ensures) ∙ sym c.deref.ensures.value)
    (c.self.invariant.rows_are.row c.args.trip within))
