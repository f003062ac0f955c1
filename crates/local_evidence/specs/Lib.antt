pub mod LinkLocalBasis
