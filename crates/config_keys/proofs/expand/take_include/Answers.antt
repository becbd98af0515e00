use Rattle.plan_num.proofs.Common.{◌<◌, ◌∙◌, arith}
use Rattle.config_keys.proofs.Expanding.{too_deep, too_many, counted}
use Rattle.config_keys.proofs.expand.take_include.Goals as goal

pub returns-then-place-eq0 : goal.returns-then-place-eq0
returns-then-place-eq0 c = too_deep c.args.reading.now.includes c.args.place.left c.args.place.name.now
    c.args.include.now _ c.if-place-eq0.true (c.in_ok-copy.ensures ∙ c.as_bytes.ensures.value)

pub returns-then-reading-ge-MOST_INCLUDES : goal.returns-then-reading-ge-MOST_INCLUDES
returns-then-reading-ge-MOST_INCLUDES c =
    let some : 0 < c.args.place.left = omega arith in
    too_many c.args.reading.now.includes c.args.place.left c.args.place.name.now c.args.include.now _ some
    c.if-reading-ge-MOST_INCLUDES.true
    (c.in_ok-copy-2.ensures ∙ c.as_bytes-then-reading-ge-MOST_INCLUDES.ensures.value)

pub returns : goal.returns
returns c =
    let some : 0 < c.args.place.left = omega arith in
    counted c.args.place.left c.args.place.name.now c.args.include.now c.args.reading.now some
    c.if-reading-ge-MOST_INCLUDES.false
