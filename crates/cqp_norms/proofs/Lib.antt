pub mod BitSums
pub mod NormHalf
pub mod OutcomeHalf
pub mod Probability
pub mod StateHalf
pub mod StateMore
pub mod Witness
