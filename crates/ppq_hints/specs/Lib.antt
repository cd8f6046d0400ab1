pub use Rattle.ppq_tree.specs as ppq_tree
