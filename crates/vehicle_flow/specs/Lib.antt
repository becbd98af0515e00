pub mod AcceptedSchedules
pub mod RightVehicles
pub mod ScheduleChecks
pub mod SettledPlans
pub mod VehicleStage
pub mod PinnedSchedules
pub mod RightSchedules
