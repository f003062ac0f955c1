pub mod SaidLines
pub mod NumberedFrames
pub mod HeardMessages
pub mod SeenExchanges
