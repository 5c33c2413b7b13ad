pub mod LinesDrawn
