mod LineExamples
mod ReasonExamples
