-- Inner words: the fault of a plan that a fault of its table is.
use Rattle.tables.specs.declared.read_fault.ReadFault.{ReadFault}
use Rattle.tables.specs.declared.read_fault.ReadFault.TheVariants as read
use Rattle.vehicle_model.specs.declared.plan_fault.PlanFault.{PlanFault}
use Rattle.vehicle_model.specs.declared.plan_fault.PlanFault.TheVariants as fault

abbrev pub fault_of : ReadFault → PlanFault
fault_of (read.Row first) = fault.Row first
fault_of read.NoMemory = fault.NoMemory
