-- Beside the proofs of the functions: the laws that these cite (Laws, Shapes, Answers), and the theorems of the crate, each file resting
-- on those above it. T1 is label_iff of Labels, T2 adds of Add, T3 substs and takes of Substs.
pub mod Laws
pub mod Shapes
pub mod Answers
pub mod Pack
pub mod Back
pub mod Find
pub mod Meaning
pub mod Each
pub mod Chains
pub mod Check
pub mod Labels
pub mod Growth
pub mod Add
pub mod Enter
pub mod Depth
pub mod Substs
pub mod Room
pub mod Only
