use Rattle.plan_num.proofs.Common.{◌<◌, length, ap, ◌∙◌, arith}
use Rattle.config_keys.specs.Includes.{path_of}
use Rattle.config_keys.proofs.Telling.{outside_told, next_told, enough_told}
use Rattle.config_keys.proofs.settings_file.Sections.take_include.Goals as goal

pub returns-in-None : goal.returns-in-None
returns-in-None c = outside_told c.args.row c.args.optional c.args.name.now c.args.self.now
    c.in-None.ensures

pub returns-then-len-gt-MOST_INCLUDES : goal.returns-then-len-gt-MOST_INCLUDES
returns-then-len-gt-MOST_INCLUDES c =
    let include = c.in_ok-include_row.ensures in
    let many : 1000 < length c.push.new.self.sections.items = omega arith in
    enough_told c.args.row c.args.optional c.args.name.now c.args.self.now c.push.new.self
    c.in_ok-include_row.field-0 c.in-Some.ensures.0 include.0 include.1
    (include.2 ∙ ap path_of c.in-Some.ensures.1) c.in_ok-push.ensures.sections
    c.in_ok-push.ensures.rest many

pub returns-else-len-gt-MOST_INCLUDES : goal.returns-else-len-gt-MOST_INCLUDES
returns-else-len-gt-MOST_INCLUDES c =
    let include = c.in_ok-include_row.ensures in
    next_told c.args.row c.args.optional c.args.name.now c.args.self.now c.push.new.self
    c.in_ok-include_row.field-0 c.in-Some.ensures.0 include.0 include.1
    (include.2 ∙ ap path_of c.in-Some.ensures.1) c.in_ok-push.ensures.sections
    c.in_ok-push.ensures.rest
