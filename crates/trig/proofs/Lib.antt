-- The laws that the proofs share.
pub mod Below
pub mod TrigLaws
pub mod Limits
pub mod Direct
