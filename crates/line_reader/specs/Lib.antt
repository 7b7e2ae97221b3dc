-- Document 01, "Lines": a reader record borrowing the line and counting bytes taken. Taken is the paper's; Reads is the helpers'.
pub mod Taken
pub mod Reads
