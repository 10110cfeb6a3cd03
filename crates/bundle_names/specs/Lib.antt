pub mod Scopes
pub mod InterfaceLines
pub mod DomainNames
pub mod Tests
pub mod PlanNames
pub mod GivenSoFar
pub mod ClientNames
