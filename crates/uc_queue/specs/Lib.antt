pub mod Queue
pub mod Trees
pub mod View
