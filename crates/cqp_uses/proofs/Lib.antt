pub mod EndTables
pub mod FreeAnswers
pub mod FreeTests
pub mod FreeUses
pub mod UserLists
pub mod UserTables
