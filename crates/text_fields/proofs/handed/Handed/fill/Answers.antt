use Rattle.plan_num.proofs.Common.{◌≤◌, ◌-◌, ◌∙◌, length, sym, arith}
use Rattle.text_fields.proofs.HandedFacts.{copied_front, given_more, within_more}
use Rattle.text_fields.proofs.handed.Handed.fill.Goals as goal

pub lines-preserved : goal.lines-preserved
lines-preserved c =
    let ready = c.advance.new.self.ready.now in
    let few : c.copy_front-count.result ≤ length c.copy_front-count.new.to = grind arith in
    record {
      within = within_more c.lines.buffer c.copy_front-count.new.to c.lines.filled
          (length c.lines.buffer - c.lines.filled) c.copy_front-count.result
          c.lines.invariant.within few;
      given = given_more c.lines.buffer c.copy_front-count.new.to c.lines.filled
          (length c.lines.buffer - c.lines.filled) c.copy_front-count.result
          c.lines.invariant.within few _ _ _ c.lines.invariant.given
          (sym c.advance.ensures.same
          ∙ copied_front ready _ c.copy_front-count.new.to _ c.copy_front-count.result
          c.copy_front-count.ensures.count c.copy_front-count.ensures.copied);
    }
