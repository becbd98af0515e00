use Rattle.plan_num.proofs.Common.{◌≤◌, ◌∷◌, ◌++◌, [], ap, sym, ◌∙◌, arith, subst, w64, All, ints}
use Rattle.plan_num.proofs.Common.{All-push}
use Rattle.std.proofs.lemmas.Int.{to_z-of_z}
use Rattle.line_cost_model.proofs.Common.{map_more, map_whole}
use Rattle.line_search.specs.ConceptTables.{frequency_in}
use Rattle.line_search.proofs.ConceptRows.{id_within}
use Rattle.line_search.proofs.FirstRows.{frequency_at}
use Rattle.line_search.proofs.frequencies.line_frequencies.Goals as goal

pub loop-line-preserved : goal.loop-line-preserved
loop-line-preserved c =
    let problem = c.args.problem.now in
    let table = c.args.table.now in
    let row = c.line_row-id.result in
    let small = id_within problem c.loop-line.line row c.line_row-id.ensures
    c.line_count-line-end.ensures.sound in
    let own = to_z-of_z w64 row.0 (record { sfits = omega (arith, ints, small.low, small.high) }) in
    let read = c.line_frequency.ensures.read ∙ ap (frequency_in table) own in
    record {
      are = c.in_ok-push.ensures.items
          ∙ ap (λ some. some ++ c.line_frequency.result ∷ []) c.loop-line.invariant.are
          ∙ sym (map_more (λ line. frequency_in table line.id) problem.lines c.loop-line.line
          c.line_frequency.result (frequency_at problem.lines table c.loop-line.line row
          c.line_frequency.result c.line_row-id.ensures read));
      few = subst (All (λ frequency. frequency ≤ 1000)) (sym c.in_ok-push.ensures.items)
          (All-push (λ frequency. frequency ≤ 1000) c.loop-line.frequencies.items
          c.line_frequency.result c.loop-line.invariant.few c.line_frequency.ensures.few);
    }

pub returns-clause-read : goal.returns-clause-read
returns-clause-read c =
    let table = c.args.table.now in grind (arith, map_whole)
