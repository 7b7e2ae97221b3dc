-- Document 02, Job 2: Form, what sheet form is; Rules, what a driver in sheet form has to meet. All of it is the paper's.
pub mod Form
pub mod Rules
