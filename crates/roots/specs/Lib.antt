-- What the contracts cite: `Root`, and inside the crate `Parts`. What `Root` means, said otherwise: `Nearest`. What is proved of it: `Laws`, `RootLaws`, `Rules`, `Bounds`, `Values`.
pub mod Root
pub mod Nearest
pub mod Laws
pub mod RootLaws
pub mod Rules
pub mod Bounds
pub mod Values
pub mod Parts
