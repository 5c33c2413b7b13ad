pub mod Sheet
pub mod SheetLaws
pub mod Stages
pub mod Only
