pub mod SendRefusals
