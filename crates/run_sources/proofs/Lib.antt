mod Rounds
mod Small
mod Turns
mod Stages
