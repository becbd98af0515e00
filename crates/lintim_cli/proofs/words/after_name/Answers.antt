use Rattle.plan_num.proofs.Common.{sym, ◌∙◌, ap, length, map-id}
use Rattle.std.specs.Vec.Iter.{into_iter_items}
use Rattle.std.proofs.lemmas.Iterator.{items_from_drains}
use Rattle.std.proofs.lemmas.Iterator.Adapters.{YieldsList-from_skip, YieldsList-from_vec}
use Rattle.lintim_cli.proofs.words.after_name.Goals as goal

-- what is skipped and collected is what the line gives after its first word
pub returns : goal.returns
returns c =
    let ran = c.in_ok-collect.ensures.ran in
    let items = ap into_iter_items c.skip.ensures.source in
    ran.2.0 ∙ sym (map-id ran.0) ∙ items_from_drains ran.0 ran.1
    (YieldsList-from_skip 1
    (YieldsList-from_vec (into_iter_items c.args.line) items
    (c.skip.result.iter.rest.ok.0 ∙ ap length items))
    c.skip.ensures.count)
