pub use Rattle.ppq_tree.specs.ppq_record as ppq_record
pub use Rattle.ppq_tree.specs as ppq_tree
pub mod Heap
pub mod Heaps
