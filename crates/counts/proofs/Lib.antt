-- Laws of counts and costs.
pub mod CountLaws
pub mod CostLaws
