use Rattle.plan_num.proofs.Common.{arith, ◌∙◌, ap, position, sym}
use Rattle.pesp.specs.Listings.{has_several}
use Rattle.pesp.specs.Marks.{Marks, sets_of}
use Rattle.pesp.proofs.Entries.{branched, event_within}
use Rattle.pesp.proofs.search.branch.Goals as goal

pub save-requires : goal.save-requires
save-requires c = record {
  event = grind (arith, event_within);
}

pub returns-in_ok-save-in-Some : goal.returns-in_ok-save-in-Some
returns-in_ok-save-in-Some c =
    branched c.args.sets.now c.save.new.self c.in-Some.event
    (sym c.requires.empty ∙ c.if-has_empty.false)
    (sym (c.in-Some.ensures ∙ ap (λ (sets : Marks). position has_several (sets_of sets))
    c.sets.ensures))
    c.in_ok-save-in-Some.ensures
