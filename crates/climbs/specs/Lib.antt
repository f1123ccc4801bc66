pub mod Groves
pub mod Leads
