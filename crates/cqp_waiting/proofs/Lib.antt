pub mod ParkedLemmas
pub mod WaitingCom
pub mod WaitingLists
pub mod WaitingPark
pub mod WaitingRun
pub mod WaitingSteps
pub mod Waits
