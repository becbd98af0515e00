-- The piece stands in the rest, by as many places less as were passed over.
use Rattle.plan_num.proofs.Common.{◌≡◌, ◌≤◌, ◌-◌, [], length, get_or}
use Rattle.text_fields.specs.Rows.{pieces}
use Rattle.text_fields.proofs.line_pieces.piece_at.Given as goal

abbrev pub invariant-loop-piece : goal.invariant-loop-piece
invariant-loop-piece l =
    record {
      shorter : length l.rest ≤ length l.line;
      same : get_or (pieces l.rest) (l.index - l._piece) [] ≡ get_or (pieces l.line) l.index [];
    }
