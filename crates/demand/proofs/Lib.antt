pub mod Demand
pub mod FreshBook
pub mod OneCall
