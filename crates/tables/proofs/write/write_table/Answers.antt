use Rattle.plan_num.proofs.Common.{◌≡◌, ◌<◌, ◌≤◌, length, arith, take_all}
use Rattle.tables.specs.Writing.{table_text}
use Rattle.tables.proofs.WrittenBack.{written_back}
use Rattle.tables.proofs.write.write_table.Given.{Over}
use Rattle.tables.proofs.write.write_table.Goals as goal
use Rattle.tables.proofs.write.write_table.Goals.{After-from_vec}

-- the text is that of all lines
whole : (g : Over) (c : After-from_vec g) → c.from_vec.result
    ≡ table_text c.args.header.now c.args.kinds.now c.args.table.now
unfolding table_text
whole g c =
    let past : length c.args.table.now ≤ c.loop-row.row = omega arith in grind (arith, take_all)

pub returns-clause-text : goal.returns-clause-text
returns-clause-text g c = whole g c

pub returns-clause-back : goal.returns-clause-back
returns-clause-back g c =
    let some : 0 < length c.args.kinds.now = omega (arith, c.told-kinds, c.requires.some) in
    rw (whole g c) (written_back c.args.header.now c.args.kinds.now c.args.table.now some
    c.requires.kinds c.requires.cells c.requires.header)
