pub mod ReplyCreditFits
pub mod RefusedReply
pub mod MessageInvariant
pub mod SumPush
