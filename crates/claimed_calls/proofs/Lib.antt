mod Claiming
mod Posting
mod Jobbing
