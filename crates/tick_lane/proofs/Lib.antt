mod Replies
mod Counting
mod Ticking
