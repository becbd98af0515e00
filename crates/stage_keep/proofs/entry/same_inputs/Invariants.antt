-- What is left of both lists of texts is the same where all of them are.
use Rattle.plan_num.proofs.Common.{◌≡◌, drop, length, map, pointwise, bytes_eq}
use Rattle.stage_keep.proofs.entry.same_inputs.Given as goal

abbrev pub invariant-loop-index : goal.invariant-loop-index
invariant-loop-index l = record {
  each : length l.inputs ≡ length l.bundle.inputs;
  left : pointwise bytes_eq (map (λ text. text.now) (drop l.index l.inputs))
      (drop l.index l.bundle.inputs)
      ≡ pointwise bytes_eq (map (λ text. text.now) l.inputs) l.bundle.inputs;
}
