pub mod CostStage
pub mod LineCosts
pub mod RightCosts
