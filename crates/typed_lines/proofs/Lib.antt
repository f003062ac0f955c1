pub mod TypedParts
