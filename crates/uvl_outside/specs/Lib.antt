-- Words for what a program asks of the outside: files, input and output.
pub mod Faults
pub mod Files
pub mod Source
pub mod Sink
pub mod SureFiles
pub mod Reading
pub mod Plan
pub mod MemFiles
pub mod MemSource
pub mod MemSink
pub mod steps
