-- What the contracts of this crate cite, beside document 01, sections 'Step codes' and 'Turned down'. To be read in this
-- order.
pub mod Asked
pub mod Want
pub mod Effect
pub mod Restart
pub mod Worked
pub mod Out
pub mod Work
pub mod Event
pub mod Happened
pub mod Made
pub mod Parts
pub mod Reply
pub mod Step
