use Rattle.text_fields.proofs.HandedFacts.{nothing_left}
use Rattle.text_fields.proofs.handed.Handed.advance.Goals as goal

pub returns-in_default-clause-end : goal.returns-in_default-clause-end
returns-in_default-clause-end c none = nothing_left _ _ none c.in_default.not-Some
