mod Marks
mod Texts
