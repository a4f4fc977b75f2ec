-- What the contracts of this crate cite, beside document 01, 'The model file' and 'One listing whole'. To be read in this order.
pub mod Base
pub mod Line
pub mod Field
pub mod Tail
pub mod Goal
pub mod Codes
pub mod Put
