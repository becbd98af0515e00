use Rattle.plan_num.proofs.Common.{◌∷◌, ◌++◌, [], map, take, ap, ◌∙◌}
use Rattle.tables.proofs.Common.{records_by}
use Rattle.ptn_network.specs.Loads.{load_row_of, given_for}
use Rattle.ptn_network.proofs.LoadRows.{given_more, own_row}
use Rattle.ptn_network.proofs.loads.EachLoadRowFold4LoadRowVecOptionEdgeLoad.take_row.Goals as goal

pub returns-in-Ok-clause-knows : goal.returns-in-Ok-clause-knows
returns-in-Ok-clause-knows c = λ _.
    let edges = c.args.self.now.network.now.edges in
    let before = records_by load_row_of (take c.args.index c.args.table.now) in
    let row = c.read-row.result in
    let known = c.requires.knows in
    let met = c.in-Ok.ensures before (c.deref.ensures.value ∙ known.1) in (
      known.0,
      given_more edges before row c.args.made.now.items c.in-Ok.place known.0.edges_rise known.1
          met.1 (own_row edges before row met.0).0
          ∙ ap (λ some. map (given_for (before ++ some ∷ [])) edges) c.read-row.ensures,
    )
