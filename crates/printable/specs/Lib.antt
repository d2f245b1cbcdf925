pub mod Printables
