use Rattle.plan_num.proofs.Common.{◌≡◌, ◌∙◌, ap, None, rules, subst, sym}
use Rattle.tables.proofs.Common.{TableRow}
use Rattle.branch_certificate.specs.ReadRows.{IsReadUpTo}
use Rattle.branch_certificate.specs.TreeFiles.{tree_row}
use Rattle.branch_certificate.proofs.ReadWhole.{always_refused, misplaced, next_row}
use Rattle.branch_certificate.proofs.read.take_row.Goals as goal

pub returns-in-Err : goal.returns-in-Err
returns-in-Err c all i within same before =
    let none : c.args.fault ≡ None = search rules in
    let known = subst (λ fault. IsReadUpTo c.args.ids.now all i fault c.args.so_far.now) none before in
    always_refused c.args.ids.now all i c.args.so_far.now c.read-row.result within
    (c.read-row.ensures ∙ ap (λ (at : TableRow). tree_row at.cells) (sym same))
    known.sound known.known c.in-Err.why c.in-Err.ensures _
    (c.number-number.ensures ∙ ap (λ (at : TableRow). at.number) (sym same))

pub returns-then-branch : goal.returns-then-branch
returns-then-branch c all i within same before =
    let none : c.args.fault ≡ None = search rules in
    let known = subst (λ fault. IsReadUpTo c.args.ids.now all i fault c.args.so_far.now) none before in
    next_row c.args.ids.now all i c.args.so_far.now c.read-row.result within
    (c.read-row.ensures ∙ ap (λ (at : TableRow). tree_row at.cells) (sym same))
    known.sound known.known c.requires.rising c.in-Ok.said c.in-Ok.ensures c.in_ok-take.field-0
    c.in_ok-take.ensures.taken c.if-branch.true c.take.new.self c.in_ok-take.ensures.new

pub returns : goal.returns
returns c all i within same before =
    let none : c.args.fault ≡ None = search rules in
    let known = subst (λ fault. IsReadUpTo c.args.ids.now all i fault c.args.so_far.now) none before in
    misplaced c.args.ids.now all i c.args.so_far.now c.read-row.result within
    (c.read-row.ensures ∙ ap (λ (at : TableRow). tree_row at.cells) (sym same))
    known.sound known.known c.requires.rising c.in-Ok.said c.in-Ok.ensures c.in_ok-take.field-0
    c.in_ok-take.ensures.taken c.if-branch.false _
    (c.number-number.ensures ∙ ap (λ (at : TableRow). at.number) (sym same))
