mod Judging
mod Printed
mod ListItems
mod Passing
mod StageResults
mod Unspent
