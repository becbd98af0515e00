use Rattle.std.proofs.Common.{◌≡◌, ◌<◌, ℕ, [], replicate, length, get_or, set, ap, subst, sym, ◌∙◌, arith}
use Rattle.std.proofs.lemmas.Bool.{eq-eqb, eqb-true, false≢true}
use Rattle.std.proofs.lemmas.List.{map-set, get_or-map, length-map, length-replicate, nil_from_length as none_in}
use Rattle.demand_paths.specs.Wanted.{sum_between, AreWanted}
use Rattle.demand_paths.proofs.WantedLists.{list_set, list_there, zeros_same}
use Rattle.demand_paths.proofs.wanted.Wanted.start.Goals as goal

pub returns : goal.returns
returns c =
    let network = c.args.network.now in
    let from = c.args.from in
    let rows = c.self.inside.by_source.items in
    let row = c.in_ok-self-inside.field-0 in
    let view = map-set (λ customers. customers.items) rows from row
    ∙ ap (λ lists. set lists from row.items) c.self.view_is in
    let zeros : row.items ≡ replicate (length network.stops) 0 =
    c.in_ok-self-inside.ensures.items_if_clones_equal (λ y is. is)
    ∙ ap (λ n. replicate n 0) c.stop_count.ensures.count in
    let long = ap length zeros ∙ length-replicate {A = ℕ} (length network.stops) 0 in
    record {
      wanted = subst (AreWanted network) (sym view)
          (list_set network c.args.self.now from c.requires.wanted c.requires.from row.items long);
      there = ap (λ lists. length (get_or lists from [])) view
          ∙ ap length (list_there network c.args.self.now from c.requires.wanted c.requires.from
          row.items) ∙ long;
      same = λ passes.
          let size = ap length c.self.view_is in
          let h : from < length rows = omega (
            arith,
            size,
            length-map rows (λ customers. customers.items),
            c.requires.wanted.size,
            c.requires.from,
          ) in
          let old : get_or c.args.self.now from [] ≡ c.index.result.now.items =
          ap (λ lists. get_or lists from []) (sym c.self.view_is)
          ∙ get_or-map (λ customers. customers.items) rows from c.index.result.now [] h
          ∙ ap (λ customers. customers.items) (sym c.index.ensures) in
          let count = eqb-true _ 0 (sym c.is_empty.ensures ∙ c.if-not-is_empty.false) in
          let none : c.index.result.now.items ≡ [] =
          none_in c.index.result.now.items (omega (arith, count, c.index.result.now.ok.0)) in
          ap (sum_between passes 0) (view ∙ ap (λ amounts. set c.args.self.now from amounts) zeros)
          ∙ zeros_same network c.args.self.now from c.requires.wanted c.requires.from
          (old ∙ none) passes;
    }

pub returns-then-not-is_empty-clause-there : goal.returns-then-not-is_empty-clause-there
returns-then-not-is_empty-clause-there c =
    let from = c.args.from in grind (arith, length-map, get_or, get_or-map, false≢true, eq-eqb)
