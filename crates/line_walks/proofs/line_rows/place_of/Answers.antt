use Rattle.plan_num.proofs.Common.{◌≡◌, ◌∙◌, ap, sym, position, true, is_some, w64, list_any}
use Rattle.plan_num.proofs.Common.{int_eq, false≢true}
use Rattle.std.proofs.lemmas.Int.{to_z-of_z}
use Rattle.line_walks.proofs.line_rows.place_of.Goals as goal

pub unreachable-requires : goal.unreachable-requires
unreachable-requires c =
    let there : is_some c.get_index_of.result ≡ true = c.get_index_of.ensures.found
    ∙ ap (λ id. list_any (int_eq id) c.args.ids.now.keys) (to_z-of_z w64 c.args.id c.ranges.id)
    ∙ c.requires in
    absurd (false≢true (sym (ap is_some c.in-None.is) ∙ there))

pub returns : goal.returns
returns c = ap (λ id. position (int_eq id) c.args.ids.now.keys)
    (sym (to_z-of_z w64 c.args.id c.ranges.id)) ∙ sym c.get_index_of.ensures.index ∙ c.in-Some.is
