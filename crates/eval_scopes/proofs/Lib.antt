mod Hollows
mod Places
mod Indexes
mod Stacked
mod BindingLists
mod Walks
