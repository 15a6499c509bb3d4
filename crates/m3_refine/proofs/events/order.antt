pub mod SwitchMade
pub mod SwitchRefines
pub mod GrantRefusal
pub mod GrantRefines
pub mod RevokeRefines
pub mod DueGrants
pub mod CloseRefines
pub mod SwitchLists
