mod Events
mod Meeting
mod Own
mod Seen
