mod Active
mod Least
mod Meeting
mod Right
mod Told
mod Values
