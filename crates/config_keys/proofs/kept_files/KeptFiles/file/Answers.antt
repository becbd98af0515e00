use Rattle.config_keys.proofs.KeptFacts.{file_kept}
use Rattle.config_keys.proofs.kept_files.KeptFiles.file.Goals as goal

pub returns-in_ok-read-in-Some-2-clause-kept : goal.returns-in_ok-read-in-Some-2-clause-kept
returns-in_ok-read-in-Some-2-clause-kept g c =
    file_kept (g.F.Files.contents c.args.files.now) c.args.self.now c.read.new.self c.args.optional
    c.args.path.now c.as_bytes.result.now c.in_ok-fetch.field-0 _ (cc) c.in_ok-fetch.ensures.found
    c.in_ok-read-in-Some-2.ensures.says c.in_ok-read-in-Some-2.ensures.keeps
