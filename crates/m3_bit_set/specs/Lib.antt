pub mod BitSet
