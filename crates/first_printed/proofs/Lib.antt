mod FiveSteps
mod AllCounted
mod FirstPrinted
