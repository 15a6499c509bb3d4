pub mod Keyed
pub mod ResultView
pub mod Counting
pub mod EachElement
pub mod CountDown
pub mod Prefixes
