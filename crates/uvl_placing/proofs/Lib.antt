mod Behind
mod InFront
mod Rows
