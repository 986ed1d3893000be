-- What the promise of `listed` cites.
pub mod List
