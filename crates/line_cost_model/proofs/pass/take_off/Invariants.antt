use Rattle.plan_num.proofs.Common.{◌≡◌, ℕ, ◌-◌, ◌<◌, cond, nat_eq, length, get_or, take, list_any}
use Rattle.line_cost_model.proofs.pass.take_off.Given as goal

-- the amount is off the lines so far
abbrev pub invariant-loop-line : goal.invariant-loop-line
invariant-loop-line l = record {
  size : length l.left.items ≡ length l.fn.left.items;
  lowered : (line : ℕ) → line < length l.fn.left.items → get_or l.left.items line 0
      ≡ get_or l.fn.left.items line 0 - cond (list_any (nat_eq line) (take l.line-index l.line-items)) l.amount 0;
}
