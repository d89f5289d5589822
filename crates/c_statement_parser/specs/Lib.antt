pub mod NestsStatements
