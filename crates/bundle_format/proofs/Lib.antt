mod Ends
mod Fares
mod Weaving
