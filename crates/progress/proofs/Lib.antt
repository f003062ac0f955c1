mod Addresses
mod Filing
mod Gaining
mod Instance
mod Interface
mod Reaching
mod Staying
mod Turns
