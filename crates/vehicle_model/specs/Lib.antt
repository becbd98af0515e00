pub mod DeadTables
pub mod DrivenSchedules
pub mod PlanFaults
pub mod Plans
pub mod ReadSchedules
pub mod Readers
pub mod Schedules
pub mod Trips
