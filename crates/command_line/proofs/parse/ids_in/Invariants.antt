use Rattle.plan_num.proofs.Common.{◌≡◌, drop, length}
use Rattle.command_line.proofs.WordFacts.{IsIds}
use Rattle.command_line.proofs.parse.ids_in.Given as goal

-- all ids are those of the words so far, and then those of the words that are left
abbrev pub invariant-loop-word : goal.invariant-loop-word
invariant-loop-word l = record {
  ids : IsIds l.words l.ids (drop l.word-index l.words);
  count : length l.ids ≡ l.word-index;
}
