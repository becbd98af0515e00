use Rattle.plan_num.proofs.Common.{arith, ◌∙◌, sym, or_cases, or_parts}
use Rattle.pesp.proofs.EmptySets.{empty_marks}
use Rattle.pesp.proofs.Revised.{both_revised}
use Rattle.pesp.proofs.revise.revise.Goals as goal

pub returns-clause-revises : goal.returns-clause-revises
returns-clause-revises c =
    both_revised c.args.activity c.args.at c.args.sets.now c.revise_end.new.sets
    c.revise_end-2.new.sets
    c.args.changed.now c.revise_end.new.changed c.revise_end-2.new.changed
    c.in_ok-first.ensures.revises c.in_ok-second.ensures.revises

pub returns-clause-empty : goal.returns-clause-empty
returns-clause-empty c is = grind (arith, or_cases, empty_marks)

pub returns-clause-full : goal.returns-clause-full
returns-clause-full c none full =
    let parts = or_parts c.in_ok-first.first _ (sym c.any_of.ensures ∙ none) in grind arith
