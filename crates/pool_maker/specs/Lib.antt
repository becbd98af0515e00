pub mod PoolTexts
pub mod RightPools
pub mod Tellable
