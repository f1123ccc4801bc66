pub mod ClimbLaws
pub mod LeadLaws
