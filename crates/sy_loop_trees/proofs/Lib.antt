mod Choosing
mod Listed
