mod Comments
mod MadePools
mod PoolsAreRight
mod PoolsRead
mod RowsInside
mod SortedIds
mod Tried
mod UncoveredEdges
