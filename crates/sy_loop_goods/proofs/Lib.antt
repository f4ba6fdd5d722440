mod Columns
mod Told
mod Memos
mod Pages
