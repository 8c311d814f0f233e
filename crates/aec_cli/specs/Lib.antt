pub mod CommandExamples
pub mod Commands
pub mod Jobs
pub mod Asked
pub mod Openings
pub mod Statuses
pub mod Actions
pub mod Ends
