pub mod JobLemmas
pub mod StatusLemmas
pub mod WordLemmas
pub mod EndLemmas
