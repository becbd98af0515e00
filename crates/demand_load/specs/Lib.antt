pub mod LoadStage
pub mod LoadTables
pub mod RightLoads
pub mod Demand
