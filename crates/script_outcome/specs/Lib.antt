-- Document 01, "Calls and answers": the text of outcomes, reports, readiness, sources and ends, each by its name. All of it is the paper's.
pub mod Texts
