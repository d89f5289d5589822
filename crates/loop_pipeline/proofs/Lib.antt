pub mod RowLists
pub mod FirstAndLast
pub mod LoopRows
pub mod SolvedLoop
pub mod ShortStarts
pub mod WiderIntervals
pub mod SplitStarts
mod WorkedLoops
