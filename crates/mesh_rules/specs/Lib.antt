-- The layers' rewritings and piles of them.
pub mod Degenerate
pub mod Rewriting
pub mod Piling
-- What holds of them.
pub mod RuleLaws
-- Worked examples.
pub mod Examples
