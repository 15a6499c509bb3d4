pub mod ReadyListView
pub mod SchedView
