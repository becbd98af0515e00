pub mod JourneyNets
pub mod JourneyTexts
