pub mod ImageResult
