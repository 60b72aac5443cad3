pub mod PieceNets
pub mod PieceCuts
pub mod RowScans
