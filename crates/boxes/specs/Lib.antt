pub mod Record
pub mod Arrival
pub mod Departure
pub mod Step
pub mod Tables
pub mod Taking
pub mod Laws
