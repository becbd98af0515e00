use Rattle.plan_num.proofs.Common.{◌≡◌, ◌<◌, [], length, ap, sym, ◌∙◌, subst, arith, map, get_or}
use Rattle.plan_num.proofs.Common.{get_or-map, length-map}
use Rattle.link_plans.specs.LinkRows.{IsRising}
use Rattle.link_plans.proofs.link_table.LinkTable.list.Goals as goal

pub returns-clause-list : goal.returns-clause-list
returns-clause-list c =
    let lists = map (λ row. row.items) c.self.inside.rows.items in
    let within : c.args.trip < length lists =
    subst (λ rows. c.args.trip < length rows) (sym c.self.view_is) c.requires in
    let inside : c.args.trip < length c.self.inside.rows.items = omega (
      arith,
      within,
      length-map c.self.inside.rows.items (λ row. row.items),
    ) in
    subst (λ rows. c.deref.result.now ≡ get_or rows c.args.trip []) c.self.view_is
    (sym (get_or-map (λ row. row.items) c.self.inside.rows.items c.args.trip c.index.result.now []
    inside
    ∙ ap (λ row. row.items) (sym c.index.ensures) ∙ sym c.deref.ensures.value))

pub returns-clause-rising : goal.returns-clause-rising
returns-clause-rising c =
    let lists = map (λ row. row.items) c.self.inside.rows.items in
    let within : c.args.trip < length lists =
    subst (λ rows. c.args.trip < length rows) (sym c.self.view_is) c.requires in
    subst IsRising (subst (λ rows. get_or rows c.args.trip [] ≡ c.deref.result.now) (sym
    c.self.view_is)
    (sym (returns-clause-list c)))
    (c.self.invariant.rows_are.row c.args.trip within).rising
