use Rattle.plan_num.proofs.Common.{subst, sym, All, err_from_is_err_and}
use Rattle.tables.proofs.Common.{refused_without}
use Rattle.ptn_network.specs.Loads.{load_input, IsLoad}
use Rattle.ptn_network.proofs.LoadRows.{edge_missing, loads_given, loads_sound}
use Rattle.ptn_network.proofs.loads.Loads.from_text.Goals as goal

pub returns-in_err-given : goal.returns-in_err-given
returns-in_err-given c =
    let p = err_from_is_err_and c.from_residual-in_err-given.result
    c.from_residual-in_err-given.ensures.1 in
    rw (p.1, p.2) (refused_without (load_input c.args.file c.args.network.now.edges)
    c.args.text.now c.in_err-given.field-0.0 c.in_err-given.ensures)

pub invariant_of-result : goal.invariant_of-result
invariant_of-result c =
    let edges = c.args.network.now.edges in
    let read = c.in_ok-given.ensures in
    let all = rw (c.in-Some.is, c.deref.ensures.value) at c.in_ok-loads.ensures in
    let made = loads_given c.args.file edges c.args.text.now c.in_ok-given.given.items read.0
    read.1.1 c.in-Some.loads.items all in
    subst (All IsLoad) (sym made.1) (loads_sound c.args.file edges c.args.text.now made.0)

pub returns-in-Some : goal.returns-in-Some
returns-in-Some c =
    let read = c.in_ok-given.ensures in
    loads_given c.args.file c.args.network.now.edges c.args.text.now c.in_ok-given.given.items
    read.0 read.1.1 c.in-Some.loads.items
    (rw (c.in-Some.is, c.deref.ensures.value) at c.in_ok-loads.ensures)

pub returns : goal.returns
returns c =
    let read = c.in_ok-given.ensures in
    edge_missing c.args.file c.args.network.now.edges c.args.text.now c.in_ok-given.given.items
    read.0 read.1.1 (rw (c.in-None.is, c.deref.ensures.value) at c.in_ok-loads.ensures)
