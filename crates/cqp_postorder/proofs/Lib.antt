mod Counts
mod Filling
mod Found
mod Parts
mod Placed
mod Sizing
mod Uniform
mod UniformLists
