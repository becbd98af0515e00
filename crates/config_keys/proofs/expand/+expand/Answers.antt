use Rattle.plan_num.proofs.Common.{ap, ◌∙◌, Err, refl, the_row, err_from_is_err_and}
use Rattle.std.specs.Rc.{rc_value}
use Rattle.plan_files.proofs.Common.{nothing_read, both_read}
use Rattle.config_keys.proofs.Expanding.{row_refused, row_unfound, row_read}
use Rattle.config_keys.proofs.Expanding.{leads_first, leads_more, leads_refused, leads_last}
use Rattle.config_keys.proofs.expand.+expand.Goals as goal

pub read_include-returns-in_err-take_include-clause-read :
    goal.read_include-returns-in_err-take_include-clause-read
read_include-returns-in_err-take_include-clause-read g t c =
    let p = err_from_is_err_and c.from_residual.result c.from_residual.ensures.1 in
    row_refused c.args.place.left c.args.place.name.now c.args.include.now c.args.reading.now c.args.kept.now
    _ c.args.kept.now c.take_include.new.reading c.take_include.new.reading
    c.in_err-take_include.field-0.0 _ c.in_err-take_include.ensures (p.1 ∙ ap Err p.2)

pub read_include-returns-in_err-file-clause-read :
    goal.read_include-returns-in_err-file-clause-read
read_include-returns-in_err-file-clause-read g t c =
    let p = err_from_is_err_and c.from_residual-in_err-file.result
    c.from_residual-in_err-file.ensures.1 in
    row_unfound c.args.place.left c.args.place.name.now c.args.include.now c.args.reading.now c.args.kept.now
    (rc_value {Z = the_row.Denot}) c.take_include.new.reading c.as_str-path.result.now c.in_ok-take_include.ensures
    c.as_str-path.ensures.value _ c.file.new.self c.take_include.new.reading
    c.in_err-file.field-0.0 _ c.in_err-file.ensures.gives (p.1 ∙ ap Err p.2)

pub read_include-returns-in-Some-clause-read : goal.read_include-returns-in-Some-clause-read
read_include-returns-in-Some-clause-read g t c =
    row_read c.args.place.left c.args.place.name.now c.args.include.now c.args.reading.now c.args.kept.now
    (rc_value {Z = the_row.Denot}) c.take_include.new.reading c.as_str-path.result.now c.in_ok-take_include.ensures
    c.as_str-path.ensures.value _ _ c.file.new.self c.read_file.new.kept
    c.as_str-path.result.now c.in-Some.file c.read_file.new.reading _
    c.in_ok-file.ensures.only_reads.contents refl (rw c.in-Some.is at c.in_ok-file.ensures.gives)
    c.in_ok-file.ensures.kept (rw c.as_ref.ensures at c.read_file.ensures.read)

pub read_file-loop-section-init : goal.read_file-loop-section-init
read_file-loop-section-init g t c = record {
  reads = nothing_read _ _ _ _;
  read = leads_first c.args.place.left c.args.place.name.now c.args.file.now c.args.reading.now
      c.args.kept.now _ c.deref-section-items.result.now c.deref-section-items.ensures.value;
}

pub read_file-loop-section-preserved : goal.read_file-loop-section-preserved
read_file-loop-section-preserved g t c = record {
  reads = both_read _ _ _ _ _ _ _ c.loop-section.invariant.reads
      c.in_ok-read_include.ensures.only_reads;
  read = leads_more c.args.place.left c.args.place.name.now c.args.file.now c.args.reading.now
      c.args.kept.now c.deref-section-items.result.now c.loop-section.section-index
      c.section-item.result
      c.loop-section.reading c.read_said.new.reading c.loop-section.kept
      c.loop-section-test.true c.section-item.is c.in_ok-read_said.ensures _ _ c.read_include.new.reading
      c.read_include.new.kept c.loop-section.invariant.reads.contents
      c.loop-section.invariant.read c.in_ok-read_include.ensures.read;
}

pub read_file-returns-in_err-read_include-clause-read :
    goal.read_file-returns-in_err-read_include-clause-read
read_file-returns-in_err-read_include-clause-read g t c =
    let p = err_from_is_err_and c.from_residual-in_err-read_include.result
    c.from_residual-in_err-read_include.ensures.1 in
    leads_refused c.args.place.left c.args.place.name.now c.args.file.now c.args.reading.now c.args.kept.now
    c.deref-section-items.result.now c.loop-section.section-index c.section-item.result
    c.loop-section.reading
    c.read_said.new.reading c.loop-section.kept c.loop-section-test.true
    c.section-item.is c.in_ok-read_said.ensures _ _ c.read_include.new.reading c.read_include.new.kept
    c.in_err-read_include.field-0.0 _ c.loop-section.invariant.reads.contents
    c.loop-section.invariant.read c.in_err-read_include.ensures.read (p.1 ∙ ap Err p.2)

pub read_file-returns-clause-read : goal.read_file-returns-clause-read
read_file-returns-clause-read g t c =
    leads_last c.args.place.left c.args.place.name.now c.args.file.now c.args.reading.now c.args.kept.now _
    c.deref-section-items.result.now c.loop-section.section-index c.loop-section.reading
    c.read_end.new.reading c.loop-section.kept c.read_end.result c.loop-section-test.false
    c.loop-section.invariant.read c.read_end.ensures.read
