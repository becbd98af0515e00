pub mod BestPlans
pub mod FeasiblePlans
pub mod PlanningChain
pub mod PlansThere
pub mod SolvedEnds
