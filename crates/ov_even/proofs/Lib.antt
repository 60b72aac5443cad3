pub mod PieceOrder
pub mod PieceNumbers
pub mod EvenTest
pub mod AnalysisSteps
pub mod DeskTurns
