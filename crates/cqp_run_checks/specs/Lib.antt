pub mod QubitBinders
pub mod StraightLines
