-- What callers cite: the text of the same rows, and of lines that were sorted.
pub use Rattle.report_text.proofs.LineOrder.{text_is}
pub use Rattle.report_text.proofs.Unordered.{same_text}
