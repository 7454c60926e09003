pub mod Hits
pub mod Beaten
pub mod Proper
pub mod Fronts
pub mod Shapes
pub mod Solved
pub mod Closed
pub mod Answers
