use Rattle.command_line.proofs.WordFacts.{none_of_three}
use Rattle.command_line.proofs.parse.sized_form.Goals as goal

pub returns-in-len3 : goal.returns-in-len3
returns-in-len3 c = record {
  form = none_of_three c.args.first.now c.args.words.now c.in-len3.len_at_least c.in-len3.len_below;
  in_range = tt;
}
