-- Beside document 01, section 'Terms', to be read in this order: what the contracts of this crate cite, and from Tree on
-- the terms written out whole, in which its theorems are said.
pub mod Base
pub mod Each
pub mod Term
pub mod Line
pub mod Grade
pub mod Outcome
pub mod Table
pub mod Subbed
pub mod Taken
pub mod Subst
pub mod Entry
pub mod Sound
pub mod Tree
pub mod Meaning
pub mod Promise
