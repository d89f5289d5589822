mod ListMarks
mod Ends
mod BoundLives
