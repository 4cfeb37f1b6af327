mod SameWords
mod Causes
mod Exits
