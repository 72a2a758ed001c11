-- Promise: all that callers of a search know of it, and all that a search must keep. Met: the same of the tides as one value.
pub mod Promise
pub mod Met
