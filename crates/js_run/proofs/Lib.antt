mod Written
mod Told
mod Contents
mod Ends
mod Becoming
mod Rows
