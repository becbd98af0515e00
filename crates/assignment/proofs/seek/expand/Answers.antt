use Rattle.plan_num.proofs.Common.{arith}
use Rattle.assignment.proofs.Expanding.{has_left, has_movable, expanded_by, expanded_alone, on_ok, on_both}
use Rattle.assignment.proofs.seek.expand.Goals as goal

pub claim_all-requires : goal.claim_all-requires
claim_all-requires g c = grind (arith, has_movable, has_left)

pub returns-in-Some-clause-expanded : goal.returns-in-Some-clause-expanded
returns-in-Some-clause-expanded g c = grind (arith, on_ok, expanded_by)

pub returns-in_ok-claim_all-in-None-clause-expanded :
    goal.returns-in_ok-claim_all-in-None-clause-expanded
returns-in_ok-claim_all-in-None-clause-expanded g c = on_both c.expand_last.result
    (λ have. expanded_alone g.search c.args.seeker.now.plan.now c.claim_all-in-None.new.claimed.claims
    c.expand_last.new.claimed.claims c.args.place
    c.in-None.ensures.value c.in_ok-claim_all-in-None.ensures.all have.more)
    c.expand_last.ensures.more c.expand_last.ensures.expanded

pub returns-in_ok-claim_all-in-None-clause-more : goal.returns-in_ok-claim_all-in-None-clause-more
returns-in_ok-claim_all-in-None-clause-more g c =
    let first = c.in_ok-claim_all-in-None.ensures.more in
    on_ok c.expand_last.result (λ have. record {
      kept = have.kept;
      more = record {
        kept = λ place found e. have.more.kept place found (first.more.kept place found e);
        order = λ step place e. have.more.order step place (first.more.order step place e);
      };
      others = λ place found e own. first.others place found (have.others place found e own) own;
    }) c.expand_last.ensures.more
