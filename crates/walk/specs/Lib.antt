-- The search of document 01 over ANY machine. What a reader must believe: Machine, Bad, Order, Reply, Gathers for the list of
-- bad schedules; Trail, Place (a place and the codes left at it) and Passed for what one call passes and counts. Then what
-- else the theorems speak of: Walk, Answers, Follows; Array, the walk over a program's places; and List, the walk with room
-- for some answers.
pub mod Base
pub mod Order
pub mod Machine
pub mod Bad
pub mod Reply
pub mod Gathers
pub mod Trail
pub mod Place
pub mod Walk
pub mod Passed
pub mod Answers
pub mod Follows
pub mod Array
pub mod List
