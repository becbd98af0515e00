use Rattle.plan_num.proofs.Common.{map, sym, ◌∙◌, ap, arith, filter, length-map, slice_get_within}
use Rattle.giv_files.specs.declared.key.Key.TheVariants.{LastStage}
use Rattle.giv_files.specs.Keys.{has_key, stage_keys}
use Rattle.giv_files.proofs.StageKeys.{one_more, stands, passed_over, at_end}
use Rattle.giv_files.proofs.settings_fit.has_keys.Goals as goal
use Rattle.giv_files.proofs.settings_fit.has_keys.Goals.{then-has_key+else-not-is_at, else-has_key}

pub returns-then-not-is_at : goal.returns-then-not-is_at
unfolding stage_keys
returns-then-not-is_at c = (
  λ never. cc,
  λ whole.
      let own = map (λ setting. setting.key) c.args.settings.now in
      rw c.if-not-is_at.true at (c.is_at.ensures.1
      (stands (has_key c.args.stage) c.all-key-items.result.now own c.loop-key.key-index
      c.loop-key.count LastStage c.loop-key-test.true (sym c.has_key.ensures
      ∙ c.if-has_key.true) c.loop-key.invariant.same c.loop-key.invariant.few (whole
      ∙ ap (filter (has_key c.args.stage)) (sym c.all-key-items.ensures)))),
)

pub loop-key-preserved : goal.loop-key-preserved
loop-key-preserved c =
    let own = map (λ setting. setting.key) c.args.settings.now in
    elim c.if-has_key.branch [
      | then-has_key+else-not-is_at w ↦
          let at = w.is_at.ensures.0 w.if-not-is_at.false in
          rw w.count-is (record {
            few = let within = slice_get_within own c.loop-key.count _ at in omega arith;
            same = one_more (has_key c.args.stage) c.all-key-items.result.now own
                c.loop-key.key-index c.loop-key.count LastStage c.loop-key-test.true
                (sym c.has_key.ensures ∙ w.if-has_key.true) c.loop-key.invariant.same at;
          })
      | else-has_key w ↦
          rw w.count-is (record {
            few = c.loop-key.invariant.few;
            same = passed_over (has_key c.args.stage) c.all-key-items.result.now own
                c.loop-key.key-index c.loop-key.count c.loop-key.invariant.same LastStage
                c.loop-key-test.true (sym c.has_key.ensures ∙ w.if-has_key.false);
          })
    ]

pub returns : goal.returns
unfolding stage_keys
returns c =
    let own = map (λ setting. setting.key) c.args.settings.now in
    rw (sym (length-map c.args.settings.now (λ setting. setting.key)))
    (at_end (has_key c.args.stage) c.all-key-items.result.now own c.loop-key.key-index
    c.loop-key.count c.loop-key.invariant.same _ c.all-key-items.ensures
    c.loop-key.invariant.few c.loop-key-test.false)
