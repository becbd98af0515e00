mod DayTexts
mod NetOfRows
mod PlannedTimes
mod Tried
