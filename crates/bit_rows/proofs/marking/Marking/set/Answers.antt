use Rattle.std.proofs.Common.{◌∙◌, ◌<◌, ◌/◌, ap, arith, length, slice_set}
use Rattle.bit_rows.proofs.MarkWords.{marks_put, size_is, still_blocked}
use Rattle.bit_rows.proofs.marking.Marking.set.Goals as goal

pub put-some-requires : goal.put-some-requires
put-some-requires c =
    omega (arith, c.requires, size_is c.self.inside.words.items c.self.inside.count, ap length c.self.view_is, c.self.invariant.room)

pub put-requires : goal.put-requires
put-requires c =
    let there : c.args.place / 64 < length c.self.inside.words.items =
    omega (arith, c.requires, size_is c.self.inside.words.items c.self.inside.count, ap length c.self.view_is, c.self.invariant.room) in
    (c.self.invariant.covers (c.args.place / 64) there).0

pub invariant_of-self : goal.invariant_of-self
invariant_of-self c =
    let there : c.args.place / 64 < length c.self.inside.words.items =
    omega (arith, c.requires, size_is c.self.inside.words.items c.self.inside.count, ap length c.self.view_is, c.self.invariant.room) in
    still_blocked c.self.inside.words.items c.put-some.new.words.items c.args.place c.args.is c.put-some.ensures.put
    c.self.inside.count c.self.inside.blocks.items c.put.new.words.items c.put-some.result c.self.invariant
    c.put-some.ensures.some c.put.ensures.put there

pub returns : goal.returns
returns c =
    let count : c.args.place < c.self.inside.count =
    omega (arith, c.requires, size_is c.self.inside.words.items c.self.inside.count, ap length c.self.view_is) in
    let there : c.args.place / 64 < length c.self.inside.words.items = omega (arith, count, c.self.invariant.room) in
    marks_put c.self.inside.words.items c.put-some.new.words.items c.args.place c.args.is c.put-some.ensures.put
    c.self.inside.count there count
    ∙ ap (λ marks. slice_set marks c.args.place c.args.is) c.self.view_is
