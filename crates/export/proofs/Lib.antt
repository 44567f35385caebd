-- What the proof of the name call uses, and that each call has one answer.
mod Copied
mod Unique
