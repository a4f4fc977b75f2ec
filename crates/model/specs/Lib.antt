-- What the contracts of this crate cite, beside document 01, section 'Programs, machines, threads'. First is cited by
-- contracts of the crates above alone.
pub mod Records
pub mod Fields
pub mod First
