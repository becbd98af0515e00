use Rattle.plan_num.proofs.Common.{◌∷◌, [], ap, ◌∙◌}
use Rattle.stage_chain.specs.Progress.{with_made}
use Rattle.stage_chain.proofs.HandKept.{more_no_hand}
use Rattle.stage_chain.proofs.chain.make.Goals as goal

pub new_entry-requires-clause-made : goal.new_entry-requires-clause-made
new_entry-requires-clause-made g c =
    g.met.S.Stages.laws.makes c.args.bundle.now c.in-Ok.made c.in-Ok.ensures.made

pub returns-in_ok-add-in-Ok-clause-no_hand_file : goal.returns-in_ok-add-in-Ok-clause-no_hand_file
returns-in_ok-add-in-Ok-clause-no_hand_file g c =
    more_no_hand g.S.Stages.parts g.met.S.Stages.laws c.args.progress.now c.add.new.self c.args.bundle.now
    c.in-Ok.made c.requires.no_hand_file c.in-Ok.ensures.made
    (c.in_ok-add-in-Ok.ensures
    ∙ ap (λ entry. with_made c.args.progress.now c.in-Ok.made (entry ∷ [])) c.in_ok-entry-in-Ok.ensures.put)
