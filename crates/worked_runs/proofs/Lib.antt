pub mod ToldTurns
pub mod Determined
pub mod MovedTwice
pub mod LentWhileKilled
pub mod HungAndDropped
pub mod TrapOverHung
pub mod Turns
pub mod Rows
pub mod HungSoFar
pub mod KilledTwice
pub mod KilledInARead
pub mod EndedCaller
pub mod OppositeOrders
pub mod PutTwice
pub mod GoneAndSkipped
pub mod OutOfFuel
pub mod KeptInStore
pub mod NativeOverDriver
pub mod TrapAgain
pub mod FullStack
pub mod Wrong
mod Showing
mod ValidMoved
