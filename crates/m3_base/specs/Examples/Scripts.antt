-- Worked examples: setups, and the entries that their events come to.
use Rattle.std.specs.Prelude.{ℕ, false, List, [], ◌∷◌, Option, Some, None}
use Rattle.m3_base.specs.declared.command.Answer.{Answer}
use Rattle.m3_base.specs.declared.command.Command.{Command}
use Rattle.m3_base.specs.declared.command.Refusal.{Refusal}
use Rattle.m3_base.specs.declared.event.Entry.{Entry}
use Rattle.m3_base.specs.declared.event.Event.{Event}
use Rattle.m3_base.specs.declared.event.IdleWhy.{IdleWhy}
use Rattle.m3_base.specs.declared.event.No.{No}
use Rattle.m3_base.specs.declared.event.Said.{Said}
use Rattle.m3_base.specs.declared.ids.FlightId.{FlightId}
use Rattle.m3_base.specs.declared.order.GrantLine.{GrantLine}
use Rattle.m3_base.specs.declared.order.Order.{Order}
use Rattle.m3_base.specs.declared.packet.Perm.{Perm}
use Rattle.m3_base.specs.declared.setup_line.SetupLine.{SetupLine}
use Rattle.m3_base.specs.Ideal.Flights.{flight_name as id}
use Rattle.m3_base.specs.declared.event.Made.{Made}

abbrev pub entry_with : Event → Option Made → Said → Option ℕ → Entry
entry_with event made said restore =
    record { event = event; outcome = record { made = made; said = said; restore = restore } }

-- of an event that is no turn
abbrev pub entry : Event → Said → Option ℕ → Entry
entry event said restore = entry_with event None said restore

abbrev pub delivery_setup : List SetupLine
delivery_setup =
    SetupLine.Act 0 2
    ∷ SetupLine.Act 1 3
    ∷ SetupLine.Grant (GrantLine.Recv 1 0 2 16)
    ∷ SetupLine.Grant (GrantLine.Send 0 0 1 7 2)
    ∷ []

abbrev pub delivery : List Entry
delivery =
    entry (Event.Do 0 (Command.Send 0 (104 ∷ 105 ∷ []) None)) (Said.Flying (id 0 1)) None
    ∷ entry (Event.Take 3 2) (Said.Landed (id 0 1)) None
    ∷ entry (Event.Take 2 3) (Said.Answered (id 0 1) Answer.Sent None) None
    ∷ entry (Event.Do 1 (Command.Fetch 0)) (Said.Message 0 0 7 (104 ∷ 105 ∷ [])) None
    ∷ []

abbrev pub full_buffer_setup : List SetupLine
full_buffer_setup =
    SetupLine.Act 0 2
    ∷ SetupLine.Act 1 3
    ∷ SetupLine.Grant (GrantLine.Recv 1 0 2 16)
    ∷ SetupLine.Grant (GrantLine.Send 0 0 1 7 2)
    ∷ SetupLine.Grant (GrantLine.Send 0 1 1 8 2)
    ∷ []

abbrev pub full_buffer : List Entry
full_buffer =
    entry (Event.Do 0 (Command.Send 0 (1 ∷ []) None)) (Said.Flying (id 0 1)) None
    ∷ entry (Event.Take 3 2) (Said.Landed (id 0 1)) None
    ∷ entry (Event.Take 2 3) (Said.Answered (id 0 1) Answer.Sent None) None
    ∷ entry (Event.Do 0 (Command.Send 1 (2 ∷ []) None)) (Said.Flying (id 0 2)) None
    ∷ entry (Event.Take 3 2) (Said.Landed (id 0 2)) None
    ∷ entry (Event.Take 2 3) (Said.Answered (id 0 2) Answer.Sent None) None
    ∷ entry (Event.Do 0 (Command.Send 1 (3 ∷ []) None)) (Said.Flying (id 0 3)) None
    ∷ entry (Event.Take 3 2) (Said.LandRefused (id 0 3) Refusal.Full) None
    ∷ entry (Event.Take 2 3) (Said.Answered (id 0 3) (Answer.Refused Refusal.Full) None) None
    ∷ []

abbrev pub switch_keeps_unread_setup : List SetupLine
switch_keeps_unread_setup =
    SetupLine.Act 0 2
    ∷ SetupLine.Act 1 3
    ∷ SetupLine.Act 2 3
    ∷ SetupLine.Grant (GrantLine.Recv 1 0 2 16)
    ∷ SetupLine.Grant (GrantLine.Send 0 0 1 7 2)
    ∷ []

abbrev pub switch_keeps_unread : List Entry
switch_keeps_unread =
    entry (Event.Do 0 (Command.Send 0 (104 ∷ 105 ∷ []) None)) (Said.Flying (id 0 1)) None
    ∷ entry (Event.Take 3 2) (Said.Landed (id 0 1)) None
    ∷ entry (Event.Take 2 3) (Said.Answered (id 0 1) Answer.Sent None) None
    ∷ entry (Event.Order (Order.Switch 3 2)) (Said.Save 1) None
    ∷ entry (Event.Take 3 0) (Said.Saving 1) None
    ∷ entry (Event.Take 0 3) (Said.Saved 1) (Some 2)
    ∷ entry (Event.Take 3 0) (Said.Current 2) None
    ∷ entry (Event.Order (Order.Switch 3 1)) (Said.Save 2) None
    ∷ entry (Event.Take 3 0) (Said.Saving 2) None
    ∷ entry (Event.Take 0 3) (Said.Saved 2) (Some 1)
    ∷ entry (Event.Take 3 0) (Said.Current 1) None
    ∷ entry (Event.Do 1 (Command.Fetch 0)) (Said.Message 0 0 7 (104 ∷ 105 ∷ [])) None
    ∷ []

abbrev pub resting_receiver : List Entry
resting_receiver =
    entry (Event.Order (Order.Switch 3 2)) (Said.Save 1) None
    ∷ entry (Event.Take 3 0) (Said.Saving 1) None
    ∷ entry (Event.Take 0 3) (Said.Saved 1) (Some 2)
    ∷ entry (Event.Take 3 0) (Said.Current 2) None
    ∷ entry (Event.Do 0 (Command.Send 0 (104 ∷ 105 ∷ []) None)) (Said.Flying (id 0 1)) None
    ∷ entry (Event.Take 3 2) (Said.Bounced (id 0 1)) None
    ∷ entry (Event.Take 0 3) (Said.Held (id 0 1) 1) None
    ∷ entry (Event.Tend 1) (Said.Landed (id 0 1)) None
    ∷ entry (Event.Take 2 0) (Said.Answered (id 0 1) Answer.Sent None) None
    ∷ entry (Event.Do 1 (Command.Fetch 0)) (Said.Idle IdleWhy.NotCurrent) None
    ∷ []

abbrev pub restore_waits : List Entry
restore_waits =
    entry (Event.Order (Order.Switch 3 2)) (Said.Save 1) None
    ∷ entry (Event.Take 3 0) (Said.Saving 1) None
    ∷ entry (Event.Take 0 3) (Said.Saved 1) (Some 2)
    ∷ entry (Event.Take 3 0) (Said.Current 2) None
    ∷ entry (Event.Do 0 (Command.Send 0 (104 ∷ 105 ∷ []) None)) (Said.Flying (id 0 1)) None
    ∷ entry (Event.Take 3 2) (Said.Bounced (id 0 1)) None
    ∷ entry (Event.Take 0 3) (Said.Held (id 0 1) 1) None
    ∷ entry (Event.Order (Order.Switch 3 1)) (Said.Save 2) None
    ∷ entry (Event.Take 3 0) (Said.Saving 2) None
    ∷ entry (Event.Take 0 3) (Said.Saved 2) None
    ∷ entry (Event.Tend 1) (Said.Landed (id 0 1)) (Some 1)
    ∷ entry (Event.Take 3 0) (Said.Current 1) None
    ∷ entry (Event.Do 1 (Command.Fetch 0)) (Said.Message 0 0 7 (104 ∷ 105 ∷ [])) None
    ∷ []

abbrev pub sender_leaves_setup : List SetupLine
sender_leaves_setup =
    SetupLine.Act 0 2
    ∷ SetupLine.Act 1 3
    ∷ SetupLine.Act 2 2
    ∷ SetupLine.Grant (GrantLine.Recv 1 0 2 16)
    ∷ SetupLine.Grant (GrantLine.Send 0 0 1 7 2)
    ∷ []

abbrev pub sender_leaves : List Entry
sender_leaves =
    entry (Event.Do 0 (Command.Send 0 (104 ∷ 105 ∷ []) None)) (Said.Flying (id 0 1)) None
    ∷ entry (Event.Order (Order.Switch 2 2)) (Said.Save 0) None
    ∷ entry (Event.Take 3 2) (Said.Landed (id 0 1)) None
    ∷ entry (Event.Take 2 0) (Said.Saving 0) None
    ∷ entry (Event.Take 2 3) (Said.Bounced (id 0 1)) None
    ∷ entry (Event.Take 0 2) (Said.Saved 0) (Some 2)
    ∷ entry (Event.Take 0 2) (Said.Held (id 0 1) 0) None
    ∷ entry (Event.Take 2 0) (Said.Current 2) None
    ∷ entry (Event.Tend 0) (Said.Answered (id 0 1) Answer.Sent None) None
    ∷ entry (Event.Order (Order.Switch 2 0)) (Said.Save 2) None
    ∷ entry (Event.Take 2 0) (Said.Saving 2) None
    ∷ entry (Event.Take 0 2) (Said.Saved 2) (Some 0)
    ∷ entry (Event.Take 2 0) (Said.Current 0) None
    ∷ entry (Event.Do 0 (Command.Send 0 (106 ∷ []) None)) (Said.Flying (id 0 2)) None
    ∷ []

abbrev pub idle_events : List Entry
idle_events =
    entry (Event.Do 1 (Command.Fetch 0)) (Said.Nothing) None
    ∷ entry (Event.Do 0 (Command.Send 0 (255 ∷ []) None)) (Said.Flying (id 0 1)) None
    ∷ entry (Event.Do 0 (Command.Send 0 (255 ∷ []) None)) (Said.Idle IdleWhy.Busy) None
    ∷ entry (Event.Take 2 3) (Said.Idle IdleWhy.EmptyLink) None
    ∷ entry (Event.Tend 0) (Said.Idle IdleWhy.NotResting) None
    ∷ entry (Event.Tend 2) (Said.Idle IdleWhy.EmptyHold) None
    ∷ entry (Event.Close) (Said.Idle IdleWhy.NothingToClose) None
    ∷ entry (Event.Order (Order.Switch 3 0)) (Said.No No.NotHome) None
    ∷ entry (Event.Order (Order.Switch 3 1)) (Said.No No.Already) None
    ∷ entry (Event.Order (Order.Switch 3 2)) (Said.Save 1) None
    ∷ entry (Event.Order (Order.Switch 3 2)) (Said.No No.Already) None
    ∷ entry (Event.Order (Order.Switch 3 1)) (Said.No No.Leaving) None
    ∷ []

abbrev pub replies_setup : List SetupLine
replies_setup =
    SetupLine.Act 0 2
    ∷ SetupLine.Act 1 3
    ∷ SetupLine.Grant (GrantLine.Recv 1 0 2 16)
    ∷ SetupLine.Grant (GrantLine.Recv 0 1 1 16)
    ∷ SetupLine.Grant (GrantLine.Send 0 0 1 7 2)
    ∷ []

abbrev pub replies : List Entry
replies =
    entry (Event.Do 0 (Command.Send 0 (1 ∷ []) (Some 1))) (Said.Flying (id 0 1)) None
    ∷ entry (Event.Take 3 2) (Said.Landed (id 0 1)) None
    ∷ entry (Event.Take 2 3) (Said.Answered (id 0 1) Answer.Sent None) None
    ∷ entry (Event.Do 0 (Command.Send 0 (2 ∷ []) (Some 1))) (Said.Flying (id 0 2)) None
    ∷ entry (Event.Take 3 2) (Said.Landed (id 0 2)) None
    ∷ entry (Event.Take 2 3) (Said.Answered (id 0 2) Answer.Sent None) None
    ∷ entry (Event.Do 1 (Command.Fetch 0)) (Said.Message 0 0 7 (1 ∷ [])) None
    ∷ entry (Event.Do 1 (Command.Reply 0 0 (170 ∷ []))) (Said.Flying (id 1 1)) None
    ∷ entry (Event.Take 2 3) (Said.Landed (id 1 1)) None
    ∷ entry (Event.Take 3 2) (Said.Answered (id 1 1) Answer.Replied None) None
    ∷ entry (Event.Do 1 (Command.Fetch 0)) (Said.Message 1 0 7 (2 ∷ [])) None
    ∷ entry (Event.Do 1 (Command.Reply 0 1 (187 ∷ []))) (Said.Flying (id 1 2)) None
    ∷ entry (Event.Take 2 3) (Said.LandRefused (id 1 2) Refusal.Full) None
    ∷ entry (Event.Take 3 2) (Said.Answered (id 1 2) (Answer.Refused Refusal.Full) None) None
    ∷ entry (Event.Do 1 (Command.Acknowledge 0 1)) (Said.Acknowledged (Some (id 1 3))) None
    ∷ entry (Event.Take 2 3) (Said.Credited (id 1 3) 3) None
    ∷ entry (Event.Do 0 (Command.Fetch 1)) (Said.ReplyMessage 0 1 7 (170 ∷ [])) None
    ∷ []

abbrev pub late_credit_setup : List SetupLine
late_credit_setup = delivery_setup

abbrev pub late_credit : List Entry
late_credit =
    entry (Event.Do 0 (Command.Send 0 (1 ∷ []) None)) (Said.Flying (id 0 1)) None
    ∷ entry (Event.Take 3 2) (Said.Landed (id 0 1)) None
    ∷ entry (Event.Take 2 3) (Said.Answered (id 0 1) Answer.Sent None) None
    ∷ entry (Event.Do 1 (Command.Fetch 0)) (Said.Message 0 0 7 (1 ∷ [])) None
    ∷ entry (Event.Order (Order.Revoke 2)) (Said.Revoking 2) None
    ∷ entry (Event.Close) (Said.CloseSent 2 (id 64 1) false) None
    ∷ entry (Event.Take 2 0) (Said.Closed (id 64 1) 2) None
    ∷ entry (Event.Take 0 2) (Said.Done 2 (Some 2)) None
    ∷ entry (Event.Order (Order.Grant (GrantLine.Send 0 0 1 9 1))) (Said.Granted 3 (id 64 2) false) None
    ∷ entry (Event.Take 2 0) (Said.Installed (id 64 2) 3) None
    ∷ entry (Event.Do 1 (Command.Acknowledge 0 0)) (Said.Acknowledged (Some (id 1 1))) None
    ∷ entry (Event.Take 2 3) (Said.Discarded (id 1 1) 2) None
    ∷ []

abbrev pub memory_access_setup : List SetupLine
memory_access_setup =
    SetupLine.Act 0 2
    ∷ SetupLine.Grant (GrantLine.Range 0 2 0 16 Perm.Rw)
    ∷ []

abbrev pub memory_access : List Entry
memory_access =
    entry (Event.Do 0 (Command.Write 2 15 (255 ∷ []))) (Said.Flying (id 0 1)) None
    ∷ entry (Event.Take 1 2) (Said.Landed (id 0 1)) None
    ∷ entry (Event.Take 2 1) (Said.Answered (id 0 1) Answer.Written None) None
    ∷ entry (Event.Do 0 (Command.Write 2 16 (255 ∷ []))) (Said.Refused Refusal.OutOfRange) None
    ∷ entry (Event.Do 0 (Command.Read 2 0 4097)) (Said.Refused Refusal.TooLarge) None
    ∷ entry (Event.Do 0 (Command.Read 2 14 2)) (Said.Flying (id 0 2)) None
    ∷ entry (Event.Take 1 2) (Said.Landed (id 0 2)) None
    ∷ entry (Event.Take 2 1) (Said.Answered (id 0 2) (Answer.Bytes (0 ∷ 255 ∷ [])) None) None
    ∷ []

abbrev pub revoke_while_writing_setup : List SetupLine
revoke_while_writing_setup = memory_access_setup

abbrev pub revoke_while_writing : List Entry
revoke_while_writing =
    entry (Event.Do 0 (Command.Write 2 0 (171 ∷ []))) (Said.Flying (id 0 1)) None
    ∷ entry (Event.Order (Order.Revoke 1)) (Said.Revoking 1) None
    ∷ entry (Event.Close) (Said.CloseSent 1 (id 64 1) false) None
    ∷ entry (Event.Take 2 0) (Said.Closing (id 64 1) 1) None
    ∷ entry (Event.Do 0 (Command.Write 2 0 (205 ∷ []))) (Said.Idle IdleWhy.Busy) None
    ∷ entry (Event.Close) (Said.Idle IdleWhy.NothingToClose) None
    ∷ entry (Event.Take 1 2) (Said.Landed (id 0 1)) None
    ∷ entry (Event.Take 2 1) (Said.Answered (id 0 1) Answer.Written (Some 1)) None
    ∷ entry (Event.Take 0 2) (Said.Done 1 (Some 1)) None
    ∷ entry (Event.Do 0 (Command.Write 2 0 (205 ∷ []))) (Said.Refused Refusal.NoEndpoint) None
    ∷ []

abbrev pub close_while_replying_setup : List SetupLine
close_while_replying_setup = replies_setup

abbrev pub close_while_replying : List Entry
close_while_replying =
    entry (Event.Do 0 (Command.Send 0 (1 ∷ []) (Some 1))) (Said.Flying (id 0 1)) None
    ∷ entry (Event.Take 3 2) (Said.Landed (id 0 1)) None
    ∷ entry (Event.Take 2 3) (Said.Answered (id 0 1) Answer.Sent None) None
    ∷ entry (Event.Do 1 (Command.Fetch 0)) (Said.Message 0 0 7 (1 ∷ [])) None
    ∷ entry (Event.Do 1 (Command.Reply 0 0 (170 ∷ []))) (Said.Flying (id 1 1)) None
    ∷ entry (Event.Order (Order.Revoke 1)) (Said.Revoking 1) None
    ∷ entry (Event.Close) (Said.CloseSent 3 (id 64 1) false) None
    ∷ entry (Event.Take 2 0) (Said.Closed (id 64 1) 3) None
    ∷ entry (Event.Take 0 2) (Said.Done 3 None) None
    ∷ entry (Event.Close) (Said.CloseSent 1 (id 64 2) false) None
    ∷ entry (Event.Take 3 0) (Said.Closing (id 64 2) 1) None
    ∷ entry (Event.Do 1 (Command.Fetch 0)) (Said.Refused Refusal.Revoked) None
    ∷ entry (Event.Take 2 3) (Said.Landed (id 1 1)) None
    ∷ entry (Event.Take 3 2) (Said.Answered (id 1 1) Answer.Replied (Some 1)) None
    ∷ entry (Event.Take 0 3) (Said.Done 1 (Some 1)) None
    ∷ []

abbrev pub children_first_setup : List SetupLine
children_first_setup =
    SetupLine.Act 0 2
    ∷ SetupLine.Act 1 3
    ∷ SetupLine.Grant (GrantLine.Recv 1 0 2 16)
    ∷ SetupLine.Grant (GrantLine.Send 0 0 1 7 2)
    ∷ SetupLine.Grant (GrantLine.Send 0 1 1 8 1)
    ∷ []

abbrev pub children_first : List Entry
children_first =
    entry (Event.Order (Order.Revoke 2)) (Said.Revoking 2) None
    ∷ entry (Event.Order (Order.Revoke 1)) (Said.Revoking 1) None
    ∷ entry (Event.Order (Order.Revoke 2)) (Said.No No.Closing) None
    ∷ entry (Event.Close) (Said.CloseSent 2 (id 64 1) false) None
    ∷ entry (Event.Close) (Said.CloseSent 3 (id 64 2) false) None
    ∷ entry (Event.Close) (Said.Idle IdleWhy.NothingToClose) None
    ∷ entry (Event.Take 2 0) (Said.Closed (id 64 1) 2) None
    ∷ entry (Event.Take 2 0) (Said.Closed (id 64 2) 3) None
    ∷ entry (Event.Take 0 2) (Said.Done 2 (Some 2)) None
    ∷ entry (Event.Take 0 2) (Said.Done 3 None) None
    ∷ entry (Event.Close) (Said.CloseSent 1 (id 64 3) false) None
    ∷ entry (Event.Take 3 0) (Said.Closed (id 64 3) 1) None
    ∷ entry (Event.Take 0 3) (Said.Done 1 (Some 1)) None
    ∷ entry (Event.Order (Order.Grant (GrantLine.Send 0 0 1 7 1))) (Said.No No.NoGrant) None
    ∷ []

abbrev pub order_of_refusals_setup : List SetupLine
order_of_refusals_setup =
    SetupLine.Act 0 2
    ∷ SetupLine.Act 1 3
    ∷ SetupLine.Grant (GrantLine.Recv 1 0 2 16)
    ∷ SetupLine.Grant (GrantLine.Send 0 0 1 7 2)
    ∷ SetupLine.Grant (GrantLine.Range 0 2 0 16 Perm.R)
    ∷ []

abbrev pub order_of_refusals : List Entry
order_of_refusals =
    entry (Event.Do 0 (Command.Write 2 0 (170 ∷ []))) (Said.Refused Refusal.NoPermission) None
    ∷ entry (Event.Do 0 (Command.Write 2 16 (170 ∷ []))) (Said.Refused Refusal.OutOfRange) None
    ∷ entry (Event.Do 0 (Command.Send 0 (1 ∷ []) (Some 5))) (Said.Refused Refusal.BadReplyEndpoint) None
    ∷ entry (Event.Do 0 (Command.Send 3 (1 ∷ []) None)) (Said.Refused Refusal.NoEndpoint) None
    ∷ entry (Event.Do 0 (Command.Send 0 (1 ∷ []) None)) (Said.Flying (id 0 1)) None
    ∷ entry (Event.Take 3 2) (Said.Landed (id 0 1)) None
    ∷ entry (Event.Take 2 3) (Said.Answered (id 0 1) Answer.Sent None) None
    ∷ entry (Event.Do 1 (Command.Acknowledge 0 0)) (Said.Refused Refusal.NoSuchToken) None
    ∷ entry (Event.Do 1 (Command.Fetch 0)) (Said.Message 0 0 7 (1 ∷ [])) None
    ∷ entry (Event.Do 1 (Command.Reply 0 0 (170 ∷ []))) (Said.Refused Refusal.NoReplyWanted) None
    ∷ entry (Event.Do 1 (Command.Acknowledge 0 0)) (Said.Acknowledged (Some (id 1 1))) None
    ∷ entry (Event.Do 1 (Command.Acknowledge 0 0)) (Said.Refused Refusal.NoSuchToken) None
    ∷ []

abbrev pub refused_grants_setup : List SetupLine
refused_grants_setup =
    SetupLine.Act 0 2
    ∷ SetupLine.Grant (GrantLine.Range 0 0 0 64 Perm.R)
    ∷ []

abbrev pub refused_grants : List Entry
refused_grants =
    entry (Event.Order (Order.Grant (GrantLine.Part 0 1 1 32 33 Perm.R))) (Said.No No.OutsideParent) None
    ∷ entry (Event.Order (Order.Grant (GrantLine.Part 0 1 1 32 32 Perm.Rw))) (Said.No No.MorePermission) None
    ∷ entry (Event.Order (Order.Grant (GrantLine.Part 0 0 1 0 1 Perm.R))) (Said.No No.SlotTaken) None
    ∷ entry (Event.Order (Order.Grant (GrantLine.Part 0 1 9 0 1 Perm.R))) (Said.No No.NoGrant) None
    ∷ entry (Event.Order (Order.Grant (GrantLine.Part 0 1 1 32 32 Perm.R))) (Said.Granted 2 (id 64 1) false) None
    ∷ entry (Event.Take 2 0) (Said.Installed (id 64 1) 2) None
    ∷ []
