use Rattle.plan_num.proofs.Common.{◌≡◌, ◌+◌, ◌++◌, length, take, get_or, sym, ap, arith, ◌∙◌}
use Rattle.plan_num.proofs.Common.{enumerate_from}
use Rattle.event_tables.proofs.Common.{breaks}
use Rattle.roll_out.proofs.Added.{added_test, enumerated_more, ids_where, enumerated_all}
use Rattle.roll_out.specs.TimedRuns.{no_event}
use Rattle.roll_out.proofs.rules.add_broken.Goals as goal

pub loop-place-preserved : goal.loop-place-preserved
loop-place-preserved c =
    let run = c.args.run.now in
    let test = breaks (length run) in
    let old = c.args.ids.now.items in
    let place = c.loop-place.place in
    let more = enumerated_more 0 run place no_event c.loop-place-test.true in
    let zero_place : 0 + place ≡ place = omega arith in
    let passed : c.breaks.result ≡ test (0 + place, get_or run place no_event) =
    c.breaks.ensures ∙ ap (λ k. test (k, get_or run place no_event)) (sym zero_place) in
    added_test old c.loop-place.ids.items c.add_if.new.ids.items test (λ at. at.1)
    (take place (enumerate_from 0 run)) (0 + place, get_or run place no_event)
    c.loop-place.invariant
    c.breaks.result passed c.in_ok-add_if.ensures
    ∙ ap (λ some. old ++ ids_where test (λ at. at.1) some) (sym more)

pub returns : goal.returns
returns c =
    c.loop-place.invariant
    ∙ ap (λ some. c.args.ids.now.items ++ ids_where (breaks (length c.args.run.now)) (λ at. at.1)
    some)
    (enumerated_all 0 c.args.run.now c.loop-place.place (omega (arith, c.loop-place-test.false)))
