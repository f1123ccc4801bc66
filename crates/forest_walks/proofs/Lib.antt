pub mod ForestLaws
