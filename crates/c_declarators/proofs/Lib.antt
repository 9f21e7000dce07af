mod Shapes
mod FirstLines
mod Bare
mod Said
mod Lengths
mod Outward
mod Becoming
