-- What is drawn and how it is stored, with the theorems.
pub mod Sheet
pub mod SheetLaws
pub mod Page
pub mod PageLaws
pub mod Dried
pub mod Stands
pub mod Cubic
pub mod Arc
pub mod ArcLaws
pub mod Cap
pub mod Join
pub mod Only
