use Rattle.plan_num.proofs.Common.{◌∙◌, List, ℕ, Some, inr, refl, ap, [], ◌∷◌, false, option_map}
use Rattle.csv.specs.Reading.{strip_bom}
use Rattle.text_fields.specs.Rows.{parts_of}
use Rattle.text_fields.specs.Told.{given}
use Rattle.text_fields.proofs.FedFacts.{lines_given}
use Rattle.text_fields.proofs.SplitFacts.{no_mark_first}
use Rattle.text_fields.proofs.pieces.pieces_reader.Goals as goal

pub returns : goal.returns
returns c =
    let made = c.from_reader.ensures in
    record {
      config = made.config ∙ rw (
        c.terminator.ensures,
        c.flexible.ensures,
        c.has_headers.ensures,
        c.quoting.ensures,
        c.delimiter.ensures,
        c.new.ensures.config,
      ) refl;
      state = made.state;
      trim = made.trim ∙ rw (
        c.terminator.ensures,
        c.flexible.ensures,
        c.has_headers.ensures,
        c.quoting.ensures,
        c.delimiter.ensures,
        c.new.ensures.trim,
      ) refl;
      flexible = made.flexible ∙ rw (c.terminator.ensures, c.flexible.ensures) refl;
      ready = inr (inr (
        made.has_headers ∙ rw (
          c.terminator.ensures,
          c.flexible.ensures,
          c.has_headers.ensures,
        ) refl,
        made.headers,
      ));
      fine = made.fresh;
      parts = [] ∷ given false (parts_of c.args.text.now);
      are = lines_given c.args.text.now;
      source = made.source ∙ ap (option_map strip_bom) c.new-2.ensures
          ∙ ap (λ (bytes : List ℕ). Some bytes) (no_mark_first _);
    }
