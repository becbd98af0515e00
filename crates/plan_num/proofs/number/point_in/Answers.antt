use Rattle.plan_num.proofs.Common.{rules, YieldsList-from_slice}
use Rattle.std.proofs.Common.{tests}
use Rattle.std.proofs.lemmas.Iterator.Search.{position_from_yields_List}
use Rattle.plan_num.specs.Number.{is_point}
use Rattle.plan_num.proofs.Digits.{place_or_length}
use Rattle.plan_num.proofs.number.point_in.Goals as goal

pub returns-clause-place : goal.returns-clause-place
returns-clause-place c =
    let found =
    position_from_yields_List is_point _ _ c.position.result c.position.ensures.ran
    (YieldsList-from_slice c.args.magnitude.now cc) (λ x b q k. search (rules, tests)) in
    rw c.unwrap_or.ensures (rw found (place_or_length is_point c.args.magnitude.now))
