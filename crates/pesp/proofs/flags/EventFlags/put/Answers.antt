use Rattle.plan_num.proofs.Common.{◌∙◌, ap, arith, slice_set}
use Rattle.pesp.specs.Flags.{Flags}
use Rattle.pesp.proofs.FlagBits.{flag_put, outside_put, size_is}
use Rattle.pesp.proofs.flags.EventFlags.put.Goals as goal

pub put-requires-clause-column : goal.put-requires-clause-column
put-requires-clause-column c =
    omega (arith, c.requires, size_is c.self.inside.bits c.args.self.now c.self.view_is)

pub invariant_of-self : goal.invariant_of-self
invariant_of-self c = (
  c.put.ensures.rows ∙ c.self.invariant.0,
  omega (arith, c.put.ensures.columns, c.self.invariant),
  outside_put c.self.inside.bits c.put.new.self c.args.event c.args.flag c.put.ensures.columns
      (λ other. c.put.ensures.bits 0 other (omega (arith, c.self.invariant)))
      c.self.inside.low c.self.inside.high
      c.min-self-inside.result c.max-self-inside.result c.self.invariant.2
      (omega (arith, c.min-self-inside.ensures)) (omega (arith, c.min-self-inside.ensures))
      (omega (arith, c.max-self-inside.ensures)) (omega (arith, c.max-self-inside.ensures)),
)

pub returns : goal.returns
returns c =
    flag_put c.self.inside.bits c.put.new.self c.args.event c.args.flag c.put.ensures.columns
    (λ other. c.put.ensures.bits 0 other (omega (arith, c.self.invariant)))
    (omega (arith, c.requires, size_is c.self.inside.bits c.args.self.now c.self.view_is))
    ∙ ap (λ (flags : Flags). slice_set flags c.args.event c.args.flag) c.self.view_is
