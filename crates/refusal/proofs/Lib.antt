pub mod RuleLists
pub mod InOrder
pub mod FilledOutputs
pub mod Outcomes
