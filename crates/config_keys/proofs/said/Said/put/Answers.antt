use Rattle.giv_files.proofs.Common.{key_place}
use Rattle.config_keys.proofs.SaidItems.{says_put}
use Rattle.config_keys.proofs.said.Said.put.Goals as goal

pub returns : goal.returns
returns c = says_put c.args.value.now c.args.key c.args.self.now
    (record { texts = c.insert.new.self })
    (λ key. rw (← c.place.ensures, ← c.in_ok-copy.ensures) (c.in_ok-insert.ensures.updates.0 (key_place key)))
