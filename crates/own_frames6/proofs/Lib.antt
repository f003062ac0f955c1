mod Words
mod Sending
