-- Refusals of commands by code and name.
use Rattle.std.specs.Prelude.{ℕ, List, codes}
use Rattle.m3_base.specs.declared.command.Refusal.{Refusal}

abbrev pub refusal_code : Refusal → ℕ
refusal_code Refusal.NoEndpoint = 1
refusal_code Refusal.NoCredits = 2
refusal_code Refusal.TooLarge = 3
refusal_code Refusal.Revoked = 4
refusal_code Refusal.Full = 5
refusal_code Refusal.OutOfRange = 6
refusal_code Refusal.NoPermission = 7
refusal_code Refusal.NoReplyWanted = 8
refusal_code Refusal.NoSuchToken = 9
refusal_code Refusal.BadReplyEndpoint = 10

abbrev pub refusal_name : Refusal → List ℕ
refusal_name Refusal.NoEndpoint = codes "no-endpoint"
refusal_name Refusal.NoCredits = codes "no-credits"
refusal_name Refusal.TooLarge = codes "too-large"
refusal_name Refusal.Revoked = codes "revoked"
refusal_name Refusal.Full = codes "full"
refusal_name Refusal.OutOfRange = codes "out-of-range"
refusal_name Refusal.NoPermission = codes "no-permission"
refusal_name Refusal.NoReplyWanted = codes "no-reply-wanted"
refusal_name Refusal.NoSuchToken = codes "no-such-token"
refusal_name Refusal.BadReplyEndpoint = codes "bad-reply-endpoint"
