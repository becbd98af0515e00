use Rattle.plan_num.proofs.Common.{◌≡◌, pos, int_eq, Some, sym, ap, ◌∙◌, w64, position-Some}
use Rattle.plan_num.proofs.Common.{get_or, slice_get-get_or, Decides-int_eq, true}
use Rattle.std.proofs.lemmas.Int.{to_z-of_z}
use Rattle.pesp_texts.proofs.times.place_of.Goals as goal

pub returns-in-Some : goal.returns-in-Some
returns-in-Some c =
    let keys = c.args.instance.now.names.keys in
    let place = c.in-Some.place in
    let found = sym c.in-Some.ensures.index in
    let at = position-Some (int_eq _) keys place (pos 0) found in
    let own = to_z-of_z w64 c.args.name c.ranges.name in
    let same : int_eq c.args.name (get_or keys place (pos 0)) ≡ true =
    ap (λ name. int_eq name (get_or keys place (pos 0))) (sym own) ∙ at.1 in
    slice_get-get_or keys place (pos 0) at.0
    ∙ ap Some (sym ((Decides-int_eq c.args.name (get_or keys place (pos 0))).0 same))
