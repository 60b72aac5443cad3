pub mod Articulations
