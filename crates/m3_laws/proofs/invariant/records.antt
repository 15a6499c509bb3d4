pub mod RecordsOfGrants
pub mod OrdersKeepRecords
pub mod ClosingRecords
pub mod RecordFormsStay
pub mod QueueOwners
