mod Answering
mod Lines
mod Readers
mod Runs
mod Unread
