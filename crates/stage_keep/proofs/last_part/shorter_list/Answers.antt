use Rattle.plan_num.proofs.Common.{ap, sym, ◌∷◌, [], map, option_to_list}
use Rattle.stage_keep.proofs.last_part.shorter_list.Goals as goal

pub returns : goal.returns
returns c = ap (λ f. map (λ file. file ∷ []) (option_to_list f)) (sym c.row.ensures.alone)
