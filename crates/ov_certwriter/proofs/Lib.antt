pub mod PutTexts
pub mod PathTexts
pub mod EntryTexts
pub mod Placing
pub mod Answering
pub mod Filled
pub mod Sending
pub mod InParts
