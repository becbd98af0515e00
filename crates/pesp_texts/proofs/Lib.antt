mod Reading
mod Timing
mod Answered
mod Passing
