use Rattle.plan_num.proofs.Common.{◌≡◌, ◌∷◌, [], arith, subst, sym, MatchBool}
use Rattle.pesp_texts.specs.Texts.{IsNumberOf}
use Rattle.pesp_texts.proofs.Passing.{none_here, number_here, passed_more}
use Rattle.pesp_texts.proofs.numbering.number_at.Goals as goal

pub returns-then-not-branch : goal.returns-then-not-branch
returns-then-not-branch c =
    let rows = c.loop-passed.rows in
    let none : rows ≡ [] =
    subst (λ found. MatchBool found (rows ≡ c.next_row.new.row ∷ c.next_row.new.self) (rows ≡ []))
    c.if-not-branch.true c.in_ok-next_row.ensures in
    none_here c.args.rows.now rows c.loop-passed._passed c.args.index c.loop-passed.invariant none
    (omega (arith, c.loop-passed-test.true))

pub loop-passed-preserved : goal.loop-passed-preserved
loop-passed-preserved c =
    let rows = c.loop-passed.rows in
    let next : rows ≡ c.next_row.new.row ∷ c.next_row.new.self =
    subst (λ found. MatchBool found (rows ≡ c.next_row.new.row ∷ c.next_row.new.self) (rows ≡ []))
    c.if-not-branch.false c.in_ok-next_row.ensures in
    passed_more c.args.rows.now rows c.next_row.new.self c.loop-passed._passed c.next_row.new.row
    c.loop-passed.invariant next

pub returns-then-branch : goal.returns-then-branch
returns-then-branch c =
    let rows = c.loop-passed.rows in
    let next : rows ≡ c.next_row-2.new.row ∷ c.next_row-2.new.self =
    subst (λ found. MatchBool found (rows ≡ c.next_row-2.new.row ∷ c.next_row-2.new.self)
    (rows ≡ [])) c.if-branch.true c.in_ok-next_row-2.ensures in
    subst (IsNumberOf c.args.rows.now c.args.index) (sym c.number.ensures)
    (number_here c.args.rows.now rows c.next_row-2.new.self c.loop-passed._passed c.args.index
    c.next_row-2.new.row c.loop-passed.invariant
    (omega (arith, c.loop-passed-test.false, c.loop-passed.auto._passed-end)) next)

pub returns : goal.returns
returns c =
    let rows = c.loop-passed.rows in
    let none : rows ≡ [] =
    subst (λ found. MatchBool found (rows ≡ c.next_row-2.new.row ∷ c.next_row-2.new.self)
    (rows ≡ [])) c.if-branch.false c.in_ok-next_row-2.ensures in
    none_here c.args.rows.now rows c.loop-passed._passed c.args.index c.loop-passed.invariant none
    (omega (arith, c.loop-passed-test.false, c.loop-passed.auto._passed-end))
