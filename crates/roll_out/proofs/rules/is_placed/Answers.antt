use Rattle.plan_num.proofs.Common.{◌∙◌, MatchBool-at_true, MatchBool-at_false}
use Rattle.roll_out.specs.TimedRuns.{no_event}
use Rattle.roll_out.proofs.PlacedEvents.{unknown_from, unknown_to, known_ends_is}
use Rattle.roll_out.proofs.rules.is_placed.Goals as goal

pub returns-then-is_unknown : goal.returns-then-is_unknown
returns-then-is_unknown c =
    unknown_from c.args.events.now c.requires c.args.activity.now no_event
    (MatchBool-at_true _ _ c.if-is_unknown.true c.is_unknown.ensures)

pub returns-then-is_unknown-2 : goal.returns-then-is_unknown-2
returns-then-is_unknown-2 c =
    unknown_to c.args.events.now c.requires c.args.activity.now no_event
    (MatchBool-at_true _ _ c.if-is_unknown-2.true c.is_unknown-2.ensures)

pub returns : goal.returns
returns c =
    c.joins.ensures
    ∙ known_ends_is c.args.events.now c.requires c.args.activity.now no_event
    (MatchBool-at_false _ _ c.if-is_unknown.false c.is_unknown.ensures)
    (MatchBool-at_false _ _ c.if-is_unknown-2.false c.is_unknown-2.ensures)
