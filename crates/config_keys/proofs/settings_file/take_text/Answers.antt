use Rattle.plan_num.proofs.Common.{IfOk-weaker}
use Rattle.config_keys.specs.SettingsFiles.{RowsTold, TextTold}
use Rattle.config_keys.proofs.Telling.{text_rows, text_marked}
use Rattle.config_keys.proofs.settings_file.take_text.Goals as goal

pub returns-in-Ok : goal.returns-in-Ok
returns-in-Ok c = IfOk-weaker c.take_rows.result
    (RowsTold c.in-Ok.rows c.args.told.now c.take_rows.new.self)
    (TextTold c.args.text.now c.args.told.now c.take_rows.new.self)
    (λ refused told. text_rows c.args.text.now c.in-Ok.rows c.args.told.now c.take_rows.new.self
    refused c.in-Ok.ensures.0 c.in-Ok.ensures.1 told) c.take_rows.ensures

pub returns-in-Err : goal.returns-in-Err
returns-in-Err c = text_marked c.args.text.now c.args.told.now c.in-Err.fault c.in-Err.ensures.0
    c.in-Err.ensures.1
