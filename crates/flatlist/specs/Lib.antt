pub mod Form
pub mod FormLaws
pub mod Only
