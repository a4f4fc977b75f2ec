-- The worked facts of document 01, 'Twelve for the table', are one theorem: `twelve_facts` of Facts. On the way there: the schedules of steps
-- by computing the inner step (Steps), the public step along them (Public), Bare's tries by computing the rules (Bare), and from
-- counted tries to what search and listing answer (Listed).
pub mod Opened
pub mod Steps
pub mod Public
pub mod Bare
pub mod Listed
pub mod Facts
