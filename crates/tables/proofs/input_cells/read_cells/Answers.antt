use Rattle.tables.proofs.FileFaults.{cells_inside}
use Rattle.tables.proofs.input_cells.read_cells.Goals as goal

pub returns-clause-cells : goal.returns-clause-cells
returns-clause-cells g c = cells_inside c.args.file c.args.kinds.now c.args.text.now
    c.read_input.result c.read_input.ensures
