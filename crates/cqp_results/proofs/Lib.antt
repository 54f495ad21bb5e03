pub mod NextRedex
pub mod OneLess
pub mod OperandResults
pub mod ResultLists
