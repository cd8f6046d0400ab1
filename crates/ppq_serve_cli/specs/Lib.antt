pub use Rattle.ppq_answer.specs as ppq_answer
pub use Rattle.ppq_requests.specs as ppq_requests
pub use Rattle.ppq_words.specs as ppq_words
pub mod Answers
pub mod First
pub mod Over
pub mod Report
pub mod Status
