pub mod AtFirst
