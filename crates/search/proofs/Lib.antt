-- The search is the walk of crate `walk` over the model's machine. To cite: Searched (what a search answers, refusals too), Promises
-- (S2 to S5 for calls of the search), Listings and InRoom (the listing, and what stands in its room).
-- On the way there: the program's definitions beside the walk's, one file for each part (Join .., Joined). A turn has to come to what
-- JoinShows says; it tries no code (JoinSought), or one that is refused, found or too long (JoinTried), or one that is entered
-- (JoinLonger); JoinWalk puts turns together. JoinPass and JoinQuiet are for schedules that are passed whole.
-- For the functions: one turn of each loop, and what stands on the stack (Laws), and that every turn which leaves the walk going
-- spends of the budget (Falls). That an answer is fixed by what the definitions say of it (Only).
pub mod Falls
pub mod Only
pub mod Laws
pub mod JoinPlace
pub mod JoinStand
pub mod JoinRoom
pub mod JoinPass
pub mod JoinTurn
pub mod JoinShows
pub mod JoinSought
pub mod JoinTried
pub mod JoinLonger
pub mod JoinWalk
pub mod JoinEnter
pub mod Joined
pub mod JoinQuiet
pub mod Searched
pub mod Promises
pub mod Listings
pub mod InRoom
