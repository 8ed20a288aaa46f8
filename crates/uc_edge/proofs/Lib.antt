mod Putting
mod Walks
