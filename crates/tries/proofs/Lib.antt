-- What trying one code comes to, for every walk over the model's machine: the codes as a list (Codes); what a try gives, and what holds
-- along every schedule (Along); the claim judged over records is the claim over the events (Judging), and looks at no label (Blind).
pub mod Codes
pub mod Along
pub mod Judging
pub mod Blind
