-- The search theorem over any machine. To cite: Claims (S2 to S5), Pass, Placed, Fit, Unique (S2), Member, Rises, Only (what the list
-- of all bad schedules is, and that it is the only such list), Array, Loop (for a program),
-- List (a listing is calls of the search from answer to answer), ListPasses (what a listing passes, and the words it gives),
-- Example (a machine worked through).
pub mod Lists
pub mod Codes
pub mod Turn
pub mod Pass
pub mod Fit
pub mod Placed
pub mod Gather
pub mod Member
pub mod Rises
pub mod Same
pub mod Claims
pub mod Only
pub mod Array
pub mod Loop
pub mod List
pub mod ListPasses
pub mod Unique
pub mod Example
