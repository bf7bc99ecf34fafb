mod Heads
mod Left
mod Routines
