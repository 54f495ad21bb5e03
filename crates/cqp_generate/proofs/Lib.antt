mod Ended
mod Examples
mod Ranges
