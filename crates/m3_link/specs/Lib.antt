pub mod LinkOps
pub mod LinksView
