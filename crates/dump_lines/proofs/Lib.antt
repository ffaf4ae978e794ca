-- The laws, one idea a file, in the order in which they build on each other.
pub mod HeadTexts
pub mod VarForms
pub mod VarNames
pub mod HeadPlaces
pub mod VarTurns
pub mod SignLines
pub mod EventAnswers
pub mod EventPlaces
