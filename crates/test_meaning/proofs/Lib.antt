mod Productions
mod Methods
