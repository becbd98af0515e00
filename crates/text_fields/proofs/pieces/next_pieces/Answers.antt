use Rattle.text_fields.proofs.SplitFacts.{read_gives}
use Rattle.text_fields.proofs.pieces.next_pieces.Goals as goal
use Rattle.text_fields.proofs.pieces.next_pieces.Goals.{in-Ok, in-Err}

pub returns : goal.returns
returns c lines awaits =
    elim c.match-read_byte_record.branch [
      | in-Ok w ↦
          let read = w.in-Ok.ensures in
          rw w.result-is (read_gives c.args.reader.now c.read_byte_record.new.self lines
          w.in-Ok.found _ awaits (read.reads awaits.trim awaits.ready) (read.ready awaits.trim)
          read.flexible read.goes)
      | in-Err w ↦ rw w.result-is tt
    ]
