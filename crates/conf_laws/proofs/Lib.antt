mod FoundFits
mod SaidFits
mod UnlikeIas
mod IaFits
mod LeadLaws
mod IaLaws
mod PlannedShares
pub mod OneLaws
pub mod ConfFits
