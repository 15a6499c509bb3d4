pub mod ReadyLists
