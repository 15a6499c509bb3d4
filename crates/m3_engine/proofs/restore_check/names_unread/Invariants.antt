use Rattle.std.proofs.Common.{◌≡◌, drop}
use Rattle.std.specs.List.{list_all}
use Rattle.m3_model.specs.Config.KnownActivities.{is_from_home}
use Rattle.m3_engine.specs.ReceiveRecordView.{unread_of}
use Rattle.m3_engine.proofs.restore_check.names_unread.Given as goal

abbrev pub invariant-loop-i : goal.invariant-loop-i
invariant-loop-i l =
    list_all (is_from_home l.fn.site) (unread_of l.fn.mailbox) ≡ list_all (is_from_home l.fn.site) (drop l.i (unread_of l.fn.mailbox))
