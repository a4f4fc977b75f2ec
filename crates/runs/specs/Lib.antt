-- What the contracts of this crate cite, beside document 01, section 'Turned down'. To be read in this order.
pub mod Run
pub mod Fold
