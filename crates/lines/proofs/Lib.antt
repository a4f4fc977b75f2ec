-- Beside the proofs of the functions: the laws that these cite, on bytes and fields (Laws), on the lines of an input
-- (Lines), on what is written (Puts); what the definitions mean, as theorems (Meaning); that an answer is fixed by what the
-- definitions say of it (Only); worked examples (Facts).
pub mod Laws
pub mod Lines
pub mod Puts
pub mod Meaning
pub mod Only
pub mod Facts
