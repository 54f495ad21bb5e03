pub mod FixedLemmas
pub mod GateEvent
pub mod JoinEvent
pub mod LeastHalf
pub mod MeasureEvent
pub mod ProductHalf
pub mod QubitEvent
pub mod Remainders
