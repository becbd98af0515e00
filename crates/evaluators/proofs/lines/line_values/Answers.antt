use Rattle.plan_num.proofs.Common.{◌≡◌, ◌≤◌, [], length, All, ap, subst, sym, ◌∙◌, arith, filter}
use Rattle.plan_num.proofs.Common.{ltb, sum_by, length-map, All-map}
use Rattle.tables.proofs.Common.{input_faults, records_of}
use Rattle.evaluators.specs.declared.costed_line.CostedLine.{CostedLine}
use Rattle.evaluators.specs.declared.rows.CostRow.{CostRow}
use Rattle.evaluators.specs.CostedLines.{costed, runs_cost}
use Rattle.evaluators.specs.Statistic.{line_values}
use Rattle.evaluators.specs.StatisticInputs.{concept_input, cost_input, lines_of}
use Rattle.evaluators.proofs.Bounded.{costs_below, lines_few, runs_below}
use Rattle.evaluators.proofs.ValuesOfParts.{both_none, lines_are}
use Rattle.evaluators.proofs.lines.line_values.Goals as goal

pub cost_of_lines-requires-clause-few : goal.cost_of_lines-requires-clause-few
cost_of_lines-requires-clause-few c =
    let costs = c.deref.result.now in
    let given = c.in_ok-costs.ensures in
    let read = c.in_ok-lines.ensures in
    let same = c.deref.ensures.value ∙ given.1 in
    let small = subst (All (λ (row : CostRow). row.cost ≤ 1000000000000000000)) (sym same)
    (costs_below c.args.costs_text.now given.0) in
    let lines = lines_of (records_of (concept_input costs) c.args.concept_text.now) in
    omega (
      arith,
      ap length (c.deref-2.ensures.value ∙ read.1),
      length-map lines (costed costs),
      lines_few costs c.args.concept_text.now small read.0,
    )

pub cost_of_lines-requires-clause-small : goal.cost_of_lines-requires-clause-small
cost_of_lines-requires-clause-small c =
    let costs = c.deref.result.now in
    let given = c.in_ok-costs.ensures in
    let read = c.in_ok-lines.ensures in
    let same = c.deref.ensures.value ∙ given.1 in
    let small = subst (All (λ (row : CostRow). row.cost ≤ 1000000000000000000)) (sym same)
    (costs_below c.args.costs_text.now given.0) in
    subst (All (λ (line : CostedLine). runs_cost line ≤ 1000000000000000000000))
    (sym (c.deref-2.ensures.value ∙ read.1))
    (All-map (λ (line : CostedLine). runs_cost line ≤ 1000000000000000000000) (costed costs) _
    (runs_below costs c.args.concept_text.now small read.0))

pub returns : goal.returns
returns c =
    let given = c.in_ok-costs.ensures in
    let read = c.in_ok-lines.ensures in
    let same = c.deref.ensures.value ∙ given.1 in
    let text = c.args.concept_text.now in (
      both_none (input_faults cost_input c.args.costs_text.now) _ given.0
          (subst (λ costs. input_faults (concept_input costs) text ≡ []) same read.0),
      lines_are c.deref.result.now (records_of (concept_input c.deref.result.now) text)
          c.in_ok-lines.lines.items _ _ read.1 (c.cost_of_lines.ensures
          ∙ ap (λ lines. sum_by runs_cost lines) c.deref-2.ensures.value)
          (c.running_lines.ensures ∙ ap (λ lines. length (filter (λ (line : CostedLine). ltb 0
          line.frequency) lines)) c.deref-3.ensures.value)
          ∙ ap (λ costs. line_values costs (records_of (concept_input costs) text)) same,
    )
