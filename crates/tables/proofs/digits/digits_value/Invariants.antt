-- The digits so far are worth the value.
use Rattle.plan_num.proofs.Common.{◌≡◌, true, take}
use Rattle.plan_num.specs.Number.{all_digits, value_of}
use Rattle.tables.proofs.digits.digits_value.Given as goal

abbrev pub invariant-loop-byte : goal.invariant-loop-byte
invariant-loop-byte l =
    record {
      digits : all_digits (take l.byte-index l.field) ≡ true;
      value : l.value ≡ value_of (take l.byte-index l.field);
    }
