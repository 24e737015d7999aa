mod Numbers
mod Quoted
mod SymbolKeys
mod UriCalls
mod Objects
