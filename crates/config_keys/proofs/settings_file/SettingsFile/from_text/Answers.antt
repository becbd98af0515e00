use Rattle.config_keys.proofs.Telling.{text_said}
use Rattle.config_keys.proofs.settings_file.SettingsFile.from_text.Goals as goal

pub returns : goal.returns
returns c = text_said c.args.text.now (record { sections = c.new.result; rest = c.new-2.result })
    c.take_text.new.told c.in_ok-fault.fault c.new.ensures.items c.new-2.ensures
    c.in_ok-fault.ensures
