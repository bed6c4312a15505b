-- Laws that the answers for the functions cite.
mod Exits
mod LaneCount
mod Filing
mod Execution
mod AtStop
mod Following
mod Locations
mod Coming
mod Stepping
mod Looping
mod Running
mod Answering
