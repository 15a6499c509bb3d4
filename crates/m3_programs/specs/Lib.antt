pub mod ListProgramView
pub mod ItemMoves
pub mod SetupPrograms
pub mod ListsMove
