mod ToldVerdict
mod RunVerdict
