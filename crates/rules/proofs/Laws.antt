-- Laws on the definitions, each in one place.
pub mod Tests
pub mod Lists
pub mod Order
pub mod Places
pub mod Clamp
pub mod Ring
pub mod Axes
pub mod Stopped
pub mod Openings
pub mod Refusing
pub mod Histories
pub mod Grouping
pub mod Finishing
