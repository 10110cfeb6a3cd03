mod Found
mod Rows
mod Handing
mod Orders
mod GivingUp
mod Opens
mod HandingBack
mod Returning
