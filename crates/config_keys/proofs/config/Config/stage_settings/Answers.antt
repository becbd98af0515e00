use Rattle.plan_num.proofs.Common.{[], ◌∷◌, ◌++◌, map, get_or, ap, sym, ◌∙◌}
use Rattle.giv_files.specs.declared.key.Key.TheVariants.{LastStage}
use Rattle.config_keys.specs.Config.{setting_at}
use Rattle.config_keys.proofs.Settling.{passed_over, part_more, part_whole, part_fits}
use Rattle.config_keys.proofs.config.Config.stage_settings.Goals as goal
use Rattle.config_keys.proofs.config.Config.stage_settings.Goals.{then-has_key+in_ok-push_to, else-has_key}

pub returns-clause-settings : goal.returns-clause-settings
returns-clause-settings c = part_whole c.args.self.now c.args.stage c.loop-key.settings
    c.all-key-items.result.now c.loop-key.key-index c.all-key-items.ensures c.loop-key-test.false
    c.loop-key.invariant

pub returns-clause-fits : goal.returns-clause-fits
returns-clause-fits c = rw (returns-clause-settings c)
    (part_fits c.args.self.now c.args.stage (rw c.self.view_is at c.self.invariant))

pub loop-key-preserved : goal.loop-key-preserved
loop-key-preserved c =
    let keys = c.all-key-items.result.now in
    let i = c.loop-key.key-index in
    let own = setting_at c.args.self.now in
    elim c.if-has_key.branch [
      | then-has_key+in_ok-push_to w ↦
          rw w.settings-is (w.in_ok-push_to.ensures
          ∙ ap (λ some. some ++ own (get_or keys i LastStage) ∷ []) c.loop-key.invariant
          ∙ part_more c.args.self.now c.args.stage keys i LastStage c.loop-key-test.true
          (sym c.has_key.ensures ∙ w.if-has_key.true))
      | else-has_key w ↦
          rw w.settings-is (c.loop-key.invariant
          ∙ ap (map own) (passed_over c.args.stage keys i LastStage c.loop-key-test.true
          (sym c.has_key.ensures ∙ w.if-has_key.false)))
    ]
