-- The byte stands in the rest where it stands in the text.
use Rattle.plan_num.proofs.Common.{◌≡◌, ◌≤◌, ◌+◌, ◌-◌, length, eqb, position_or_len}
use Rattle.text_fields.proofs.find.place_of_byte.Given as goal

abbrev pub invariant-pieces : goal.invariant-pieces
invariant-pieces l =
    record {
      within : length l.rest ≤ length l.text;
      same : position_or_len (λ other. eqb other l.byte) l.text
          ≡ length l.text - length l.rest + position_or_len (λ other. eqb other l.byte) l.rest;
    }

abbrev pub decreases-pieces : goal.decreases-pieces
decreases-pieces l = length l.rest
