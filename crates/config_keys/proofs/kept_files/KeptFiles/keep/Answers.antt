use Rattle.plan_num.proofs.Common.{cond, Some, bytes_eq, string_bytes, ap, ◌∙◌}
use Rattle.std.specs.HashMap.{get_by_text}
use Rattle.std.specs.Rc.{rc_value}
use Rattle.std.proofs.lemmas.Map.Text.{hash_map_updates_text}
use Rattle.config_keys.proofs.KeptFacts.{put_maps}
use Rattle.config_keys.proofs.kept_files.KeptFiles.keep.Goals as goal

pub returns : goal.returns
returns c =
    let before = c.args.self.now.files in
    let after = c.insert.new.self in
    let put = c.in_ok-file.file in
    λ at. put_maps rc_value (get_by_text after at) (get_by_text before at) put
    c.args.file.now.value (bytes_eq c.args.path.now at) c.in_ok-file.ensures.cases
    (hash_map_updates_text (string_bytes c.in_ok-path.path) before after _
    c.in_ok-insert.ensures.updates at
    ∙ ap (λ name. cond (bytes_eq name at) (Some put) (get_by_text before at))
    c.in_ok-path.ensures.ok)
