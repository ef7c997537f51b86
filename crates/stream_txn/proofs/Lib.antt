mod Memory
mod Room
mod Sums
mod Queue
mod Holding
mod Examples
