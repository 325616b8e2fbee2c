pub mod Mulaw
