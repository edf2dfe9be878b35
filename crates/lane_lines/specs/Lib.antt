pub mod Deal
