pub mod GrantList
pub mod OrdersKeepGrants
pub mod OpenWhileUsed
pub mod RevokedIsGone
pub mod DoneStaysDone
