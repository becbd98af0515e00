use Rattle.plan_num.proofs.Common.{ℕ, List, Vec, Global, arith, map, subst, sym}
use Rattle.pesp.specs.Revising.{AreLinks, NotesActivity}
use Rattle.pesp.proofs.Linked.{links_more}
use Rattle.pesp.proofs.links.Links.new.Goals as goal

pub loop-index-preserved : goal.loop-index-preserved
loop-index-preserved c =
    let items : Vec ℕ Global → List ℕ = λ row. row.items in
    links_more c.args.pesp.now c.loop-index.index c.activity.result (map items
    c.loop-index.rows.items)
    (map items c.note_activity.new.rows.items) c.activity.ensures.place c.activity.ensures.sound
    c.loop-index.invariant
    (subst (λ (period : ℕ). NotesActivity period c.activity.result c.loop-index.index
    (map items c.loop-index.rows.items) (map items c.note_activity.new.rows.items)) (sym c.requires)
    c.in_ok-note_activity.ensures.noted)

pub returns : goal.returns
returns c =
    let items : Vec ℕ Global → List ℕ = λ row. row.items in
    subst (λ (count : ℕ). AreLinks c.args.pesp.now count (map items c.loop-index.rows.items))
    (omega (
      arith,
      c.loop-index-test.false,
      c.loop-index.auto.index-end,
      c.activity_count-index-end.ensures.count,
    ))
    c.loop-index.invariant
