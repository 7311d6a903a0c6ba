pub mod EndedPairs
pub mod PairCounts
pub mod AnswerWords
pub mod RefusalNumbers
