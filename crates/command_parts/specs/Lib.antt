-- what a reader must believe: what each command answers and leaves
pub mod Cutting
pub mod PlanningParts
pub mod Prelude
