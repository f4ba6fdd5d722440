pub mod Asked
pub mod Counts
pub mod DrillAnswers
pub mod Drills
pub mod Examples
pub mod Files
pub mod Lines
