mod Answered
mod Runs
mod Turns
