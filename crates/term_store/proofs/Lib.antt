mod Shapes
mod Distinct
mod Adding
