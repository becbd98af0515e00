mod AllCome
mod BehindRows
mod DeadLookups
pub mod Costs
pub mod Driven
pub mod DrivenBack
pub mod DrivenForms
pub mod DrivenNext
pub mod DrivenPlans
pub mod DrivenRows
pub mod Following
mod PlanTexts
pub mod PlanBack
mod PlanRead
mod Reading
mod Repeated
pub mod RowsFit
pub mod Tours
mod Tried
mod TriedDriven
pub mod VehicleRows
pub mod TripLinks
mod TripTexts
pub mod FaultlessPlans
