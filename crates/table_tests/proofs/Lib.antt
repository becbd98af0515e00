pub mod CostsMade
