mod Communications
mod Entries
mod FromDeeds
mod FromFits
mod RightOperands
mod TurnStands
