-- What follows from the grammar and the declarations.
pub mod PartTrees
pub mod Trees
