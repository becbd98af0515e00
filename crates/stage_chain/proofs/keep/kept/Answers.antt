use Rattle.plan_num.proofs.Common.{ap, ◌∙◌}
use Rattle.stage_keep.specs.EntryReading.{read_made}
use Rattle.stage_chain.proofs.Unkept.{no_part_told, part_told}
use Rattle.stage_chain.proofs.keep.kept.Goals as goal

pub returns-in_ok-read_made-in-Some-clause-kept : goal.returns-in_ok-read_made-in-Some-clause-kept
returns-in_ok-read_made-in-Some-clause-kept g c =
    part_told _ _ c.args.given.now c.in-Some.part.items _ c.requires c.in_ok-may_keep.ensures.only_reads.contents
    (rw c.in-Some.is at c.in_ok-part.ensures.behind)
    (c.in_ok-read_made-in-Some.ensures.made
    ∙ ap (λ at. read_made at c.in-Some.part.items) c.stage.ensures)

pub returns-in-None-clause-kept : goal.returns-in-None-clause-kept
returns-in-None-clause-kept g c =
    no_part_told _ _ c.args.given.now c.in_ok-may_keep.ensures.only_reads.contents
    (rw c.in-None.is at c.in_ok-part.ensures.behind)
