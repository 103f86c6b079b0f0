pub mod Undo
pub mod UndoLaws
pub mod Undone
pub mod Worked
