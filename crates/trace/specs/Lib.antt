-- What the contracts of this crate cite, beside document 01, section 'The claim'. To be read in this order.
pub mod Event
pub mod Judge
pub mod Verdict
pub mod Table
