use Rattle.plan_num.proofs.Common.{sym, refl, ◌∙◌, IfOk-weaker}
use Rattle.tables.specs.declared.row_why.RowWhy.TheVariants as why
use Rattle.config_keys.specs.declared.settings_file.BadRow.TheVariants as bad
use Rattle.config_keys.specs.SettingsFiles.{RowGives, IncludeTold}
use Rattle.config_keys.proofs.Rows.{odd_row, setting_row, include_row}
use Rattle.config_keys.proofs.Telling.{refused_told, setting_told, include_told}
use Rattle.config_keys.proofs.settings_file.Sections.take_row.Goals as goal

pub returns-then-len-ne2 : goal.returns-then-len-ne2
returns-then-len-ne2 c =
    refused_told c.args.row.now c.args.self.now
    (record { row = c.number.result; why = bad.Form (why.FieldCount c.len-then-len-ne2.result) })
    (λ left file. odd_row left file c.args.row.now c.number.result c.len-then-len-ne2.result
    (λ two. c.if-len-ne2.true (c.len.ensures ∙ two)) c.number.ensures c.len-then-len-ne2.ensures)

pub returns-in_ok-take-in-None : goal.returns-in_ok-take-in-None
returns-in_ok-take-in-None c =
    setting_told c.args.row.now c.field-key.result.now c.field-value.result.now c.args.self.now
    (record { sections = c.args.self.now.sections; rest = c.take.new.self })
    (λ left file. setting_row left file c.args.row.now c.field-key.result.now
    c.field-value.result.now (sym c.len.ensures ∙ c.if-len-ne2.false) c.field-key.ensures
    c.field-value.ensures (sym c.in-None.ensures)) refl c.in_ok-take-in-None.ensures

pub returns-in-Some : goal.returns-in-Some
returns-in-Some c =
    let row = c.args.row.now in
    let value = c.field-value.result.now in
    let number = c.number-in-Some.result in
    let optional = c.in-Some.optional in
    IfOk-weaker c.take_include.result
    (IncludeTold number optional value c.args.self.now c.take_include.new.self)
    (RowGives row c.args.self.now c.take_include.new.self)
    (λ turn told. include_told row number optional value c.args.self.now c.take_include.new.self
    turn (λ left file. include_row left file row c.field-key.result.now value number optional
    (sym c.len.ensures ∙ c.if-len-ne2.false) c.field-key.ensures c.field-value.ensures
    c.number-in-Some.ensures (sym c.in-Some.ensures)) told) c.take_include.ensures
