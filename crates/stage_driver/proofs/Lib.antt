pub mod Planned
pub mod PlansLeft
pub mod PlansPassed
pub mod PlansStand
pub mod SolvedEnds
pub mod WorkedPlans
pub mod WorkedFolder
pub mod WorkedSchedule
