use Rattle.plan_num.proofs.Common.{Some, [], ap, sym}
use Rattle.text_fields.proofs.FedFacts.{fed_first}
use Rattle.text_fields.proofs.handed.Handed.new.Goals as goal

pub returns : goal.returns
returns c = ap Some (sym (fed_first [] _))
