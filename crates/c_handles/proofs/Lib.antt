pub mod Walks
pub mod BoxedAgents
pub mod BoxedTexts
pub mod Ready
