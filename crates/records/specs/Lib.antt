pub mod Record
pub mod RecordLaws
pub mod Numbers
pub mod Only
