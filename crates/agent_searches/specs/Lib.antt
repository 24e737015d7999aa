pub mod Order
pub mod Looking
