pub mod Bounds
pub mod CostedLines
pub mod FirstRows
pub mod RightStatistic
pub mod Statistic
pub mod StatisticInputs
pub mod StatisticStage
