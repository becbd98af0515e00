use Rattle.plan_num.proofs.Common.{◌≡◌, ◌≤◌, ◌++◌, All, length, sym, subst, arith, items_where_true}
use Rattle.plan_num.proofs.Common.{All-append}
use Rattle.propagation.specs.declared.step.Activity.{Activity}
use Rattle.propagation.specs.Problems.{Joins}
use Rattle.propagation.specs.Waiting.{chosen_changes}
use Rattle.propagation.proofs.Canonical.{canonical_told, chosen_keep, few_told, ids_told}
use Rattle.propagation.proofs.reasons.canonical_reasons.Goals as goal

pub written_reasons-requires-clause-rides : goal.written_reasons-requires-clause-rides
written_reasons-requires-clause-rides c =
    subst (λ n. All (λ (at : Activity). Joins n at.step) c.rides-rides.result.now) (sym c.requires.each)
    (subst (All (λ (at : Activity). Joins (length c.args.problem.now.events) at.step))
    (sym c.rides-rides.ensures.value) c.rides-rides.ensures.ends)

pub written_reasons-requires-clause-changes : goal.written_reasons-requires-clause-changes
written_reasons-requires-clause-changes c =
    subst (λ n. All (λ (at : Activity). Joins n at.step) c.changes-changes.result.now) (sym c.requires.each)
    (subst (All (λ (at : Activity). Joins (length c.args.problem.now.events) at.step))
    (sym c.changes-changes.ensures.value) c.changes-changes.ensures.ends)

pub returns-clause-reasons : goal.returns-clause-reasons
returns-clause-reasons c =
    let kept = c.args.kept.now in
    canonical_told c.args.problem.now kept c.earliest.result.now c.args.times.now
    (c.rides-rides.result.now ++ items_where_true kept c.changes-changes.result.now) c.earliest.ensures.value
    (λ i. c.rides-rides.ensures.value i ++ items_where_true kept (c.changes-changes.ensures.value i)) c.requires.each
    (λ reasons. reasons.items) c.written_reasons.result c.written_reasons.ensures

pub returns-clause-ids : goal.returns-clause-ids
returns-clause-ids c =
    let problem = c.args.problem.now in
    let kept = c.args.kept.now in
    let all = c.rides-rides.result.now ++ items_where_true kept c.changes-changes.result.now in
    let are : all ≡ problem.rides ++ chosen_changes problem kept =
    λ i. c.rides-rides.ensures.value i ++ items_where_true kept (c.changes-changes.ensures.value i) in
    ids_told problem kept c.earliest.result.now c.args.times.now all c.earliest.ensures.value are c.requires.each
    (λ reasons. reasons.items) c.written_reasons.result
    (subst (All (λ (at : Activity). at.id ≤ 500000)) (sym are)
    (All-append (λ (at : Activity). at.id ≤ 500000) problem.rides
    (chosen_changes problem kept) c.rides-rides.ensures.ids
    (chosen_keep (λ at. at.id ≤ 500000) problem kept c.changes-changes.ensures.ids)))
    c.written_reasons.ensures

pub returns-clause-few : goal.returns-clause-few
returns-clause-few c =
    few_told c.earliest.result.now c.args.times.now
    (c.rides-rides.result.now ++ items_where_true c.args.kept.now c.changes-changes.result.now)
    (omega (arith, c.requires.each, c.earliest.ensures.few))
    (λ reasons. reasons.items) c.written_reasons.result c.written_reasons.ensures
