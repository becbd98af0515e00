pub mod Common
-- Other crates cite lemmas of Accepted, CellFacts, CellTexts, FileFaults, Found, Headers, Inputs,
-- InTurn, KeyPlaces, Members, Named, PlainBytes, Ranges, RowsLeft, SettingFacts, SettingsTold,
-- StageCalls, WholeRules, WriteFacts, WrittenBack and WrittenColumns.
pub mod KeyPlaces
pub mod ReportLines
pub mod SettingFacts
pub mod SettingsTold
pub mod StageCalls
pub mod StageKeys
