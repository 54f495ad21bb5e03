pub mod PartLaws
pub mod RightTurns
pub mod SomeQubits
pub mod TurnDeeds
