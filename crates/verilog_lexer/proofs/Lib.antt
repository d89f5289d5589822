mod DigitValue
mod FrontMarks
mod ByteRuns
mod FrontToken
mod NextToken
