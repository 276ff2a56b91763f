-- Laws of sorting, of the order table, of pushes and pops, and of the test of a stack; the stack's theorems are in Stacks.
pub mod RoomLaws
pub mod TopLaws
pub mod SortLaws
pub mod MoveLaws
pub mod SlotsKept
pub mod AppendLaws
pub mod ArrangeLaws
pub mod ValidLaws
pub mod StableLaws
pub mod Stacks
