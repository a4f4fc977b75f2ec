-- Beside the proofs of the functions: the laws that these cite (Laws), what the tops are (Highest), and that the test of a
-- model says exactly that it is sound (Check, from Fits and Passes), that a passed test of a configuration says that
-- its frame is (Standing), and that the whole test says exactly that the configuration is sound (Whole, from Parts).
pub mod Laws
pub mod Highest
pub mod Fits
pub mod Passes
pub mod Check
pub mod Bare
pub mod Standing
pub mod Parts
pub mod Whole
