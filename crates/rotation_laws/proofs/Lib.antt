mod Rows
mod Kept
mod Steps
