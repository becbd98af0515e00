use Rattle.plan_num.proofs.Common.{◌∙◌, ◌≡◌, All, subst, sym, arith, with_items_is}
use Rattle.bit_rows.proofs.rows.BitRows.clear_all.Goals as goal
use Rattle.bit_rows.proofs.RowBits.{are_none, has_none}

pub invariant_of-self : goal.invariant_of-self
invariant_of-self c = grind (arith, with_items_is, are_none)

pub returns-clause-none : goal.returns-clause-none
returns-clause-none c =
    let are = with_items_is c.self.inside.words c.put_zeros.new.words
    (c.put_zeros.ensures.each ∙ c.deref_mut.ensures.len) in
    has_none c.self.inside.rows c.self.inside.columns c.self.invariant.few _
    (subst (All (λ word. word ≡ 0)) (sym are) c.put_zeros.ensures.zeros)
