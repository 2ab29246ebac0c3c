pub mod Term
