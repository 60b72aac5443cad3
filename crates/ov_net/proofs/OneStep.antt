pub mod OfViews
pub mod OfTree
pub mod OfNode
pub mod OfWorld
