pub mod LinesOfProblems
