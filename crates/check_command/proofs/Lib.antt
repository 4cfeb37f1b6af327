pub mod Ends
pub mod Joined
pub mod Named
pub mod Once
pub mod OneReading
pub mod OneAnswer
pub mod Steps
pub mod Together
