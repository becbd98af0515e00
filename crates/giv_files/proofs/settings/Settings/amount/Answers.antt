use Rattle.plan_num.proofs.Common.{◌≡◌, rules}
use Rattle.giv_files.specs.Settings.{amount}
use Rattle.giv_files.proofs.SettingFacts.{amount_allowed}
use Rattle.giv_files.proofs.settings.Settings.amount.Goals as goal

pub returns-clause-range : goal.returns-clause-range
returns-clause-range c =
    let is : c.unsigned_abs.result ≡ amount c.args.self.now c.args.key = search rules in
    λ stage fits has. rw is (amount_allowed stage c.args.self.now c.args.key fits has)
