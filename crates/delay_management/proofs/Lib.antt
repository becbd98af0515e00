mod DelaysByPlace
pub mod DispositionMakes
pub mod DispositionReads
mod EventTests
mod ForwardInputs
mod InputsSound
mod JudgedFaults
mod JudgedTexts
mod RefusedInputs
mod ReportLine
mod SoonInputs
mod StageResults
mod TableParts
mod TextsBack
mod Tried
mod WrittenRows
