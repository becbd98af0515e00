mod FirstRowFacts
mod Bounded
mod ConceptRules
mod ValuesOfParts
mod SeenLines
mod PrintableStatistic
mod StageParts
pub mod StatisticMakes
pub mod StatisticReads
mod TextRows
mod Tried
