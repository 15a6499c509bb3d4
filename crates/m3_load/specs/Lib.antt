pub mod MachineLines
pub mod SummaryLines
