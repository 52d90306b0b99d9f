pub mod LetterWriting
pub mod LineByLine
