pub mod Table
pub mod Triangle
pub mod Passes
pub mod Corner
pub mod Moved
pub mod Drawn
pub mod ItsCut
pub mod WholeWay
