-- Beside the proofs of the functions: what these cite (Laws, Loops; Arrays of from_fn and map, Found of position and find;
-- Refusals of the numbers), and the theorems of the crate. Pack: what is packed is read out again. Turned: M2 for refusals 1 to 7 (early_iff). Sought: seek gives the first code that these let
-- through (seek_first). Codes: the codes in order, and what is none. Frame, Fresh: M3 for the frame (moved_keeps,
-- jumped_keeps, handed_keeps, launched_keeps, reset_keeps; fresh_sound) and M4 (reset_finds, reset_boots), from Live (counting live
-- threads), Threads (slots stay sound) and Holds (locks stay sound).
pub mod Laws
pub mod Loops
pub mod Arrays
pub mod Found
pub mod Pack
pub mod Refusals
pub mod Turned
pub mod Sought
pub mod Live
pub mod Threads
pub mod Codes
pub mod Holds
pub mod Frame
pub mod Fresh
