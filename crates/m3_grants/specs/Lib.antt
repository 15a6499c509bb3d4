pub mod DueIndexView
pub mod SiblingListView
pub mod Siblings
pub mod NodeView
pub mod GrantTree
pub mod SubtreeWalk
