mod Sizes
mod LoopUses
