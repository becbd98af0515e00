use Rattle.plan_num.proofs.Common.{arith}
use Rattle.stage_chain.specs.Hand.{is_hand}
use Rattle.stage_chain.proofs.Settling.{all_added, all_hand, some_added, some_hand, written_outside}
use Rattle.stage_chain.proofs.settle.settle.Goals as goal

pub returns-in_err-apply_all-clause-hand : goal.returns-in_err-apply_all-clause-hand
returns-in_err-apply_all-clause-hand g c =
    let out = written_outside c.deref.result.now c.in_ok-writes.writes.items c.in_ok-unmet.field-0.items
    c.args.more.items c.deref.ensures.value c.in_ok-writes.ensures
    (c.in_ok-unmet.ensures.outside is_hand c.requires.wishes) c.requires.more in grind (
      arith,
      some_hand,
    )

pub returns-in_err-apply_all-clause-writes_no_hand_file : goal.returns-in_err-apply_all-clause-writes_no_hand_file
returns-in_err-apply_all-clause-writes_no_hand_file g c =
    let out = written_outside c.deref.result.now c.in_ok-writes.writes.items c.in_ok-unmet.field-0.items
    c.args.more.items c.deref.ensures.value c.in_ok-writes.ensures
    (c.in_ok-unmet.ensures.outside is_hand c.requires.wishes) c.requires.more in
    some_added _ _ _ _ c.deref.result.now out _ _ c.in_ok-unmet.ensures.only_reads.writes c.in_err-apply_all.ensures.err

pub returns-clause-hand : goal.returns-clause-hand
returns-clause-hand g c =
    let out = written_outside c.deref.result.now c.in_ok-writes.writes.items c.in_ok-unmet.field-0.items
    c.args.more.items c.deref.ensures.value c.in_ok-writes.ensures
    (c.in_ok-unmet.ensures.outside is_hand c.requires.wishes) c.requires.more in
    all_hand _ _ _ _ c.deref.result.now out _ c.in_ok-unmet.ensures.only_reads.contents c.in_ok-apply_all.ensures.ok

pub returns-clause-writes_no_hand_file : goal.returns-clause-writes_no_hand_file
returns-clause-writes_no_hand_file g c =
    let out = written_outside c.deref.result.now c.in_ok-writes.writes.items c.in_ok-unmet.field-0.items
    c.args.more.items c.deref.ensures.value c.in_ok-writes.ensures
    (c.in_ok-unmet.ensures.outside is_hand c.requires.wishes) c.requires.more in
    all_added _ _ _ _ c.deref.result.now out _ c.in_ok-unmet.ensures.only_reads.writes c.in_ok-apply_all.ensures.ok
