-- What the contracts of this crate cite, beside document 01, sections 'Turned down' and 'The claim'. To be read in this
-- order.
pub mod Step
pub mod Claim
pub mod Recorded
pub mod Judge
