pub mod Subnets
pub mod SubnetLaws
pub mod Rules
pub mod PlanLaws
