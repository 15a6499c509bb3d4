-- Journals that follow a script's events: one entry for each, and behind a line on files the order
-- that it makes.
use Rattle.std.specs.Prelude.{◌≡◌, List, [], ◌∷◌, ◌++◌, None}
use Rattle.m3_base.specs.declared.order.GrantLine.{GrantLine}
use Rattle.m3_base.specs.declared.order.Order.{Order}
use Rattle.m3_base.specs.declared.order.FileLine.{FileLine}
use Rattle.m3_base.specs.declared.event.Event.{Event}
use Rattle.m3_base.specs.declared.event.Said.{Said}
use Rattle.m3_base.specs.declared.event.Outcome.{Outcome}
use Rattle.m3_base.specs.declared.event.Entry.{Entry}
use Rattle.m3_base.specs.Setup.Rules.{SetupValue}
use Rattle.m3_base.specs.ExtentFiles.Table.{Table}
use Rattle.m3_base.specs.ExtentFiles.Steps.{file_step}
use Rattle.m3_base.specs.ExtentFiles.JournalTables.{FileState, initial_files, files_after}

-- ---- the orders of files

-- the order that a line on files makes: a part is granted, a file's grant is revoked
abbrev pub order_of_line : FileLine → Said → List Event
order_of_line (FileLine.Open name off act ep perm) (Said.Part g at len) =
    Event.Order (Order.Grant (GrantLine.Part act ep g at len perm)) ∷ []
order_of_line (FileLine.Close g) Said.Revoke = Event.Order (Order.Revoke g) ∷ []
order_of_line line said = []

-- the order that is to stand behind an entry, where it makes one
abbrev pub order_behind : Event → Said → List Event
order_behind (Event.File line) said = order_of_line line said
order_behind event said = []

-- ---- entries

-- an outcome without a move and a Restore
abbrev pub plain_outcome : Said → Outcome
plain_outcome said = record { made = None; said = said; restore = None }

-- a line on files has the outcome of its step
abbrev pub HasFileOutcome : Table → Event → Outcome → Type 0
HasFileOutcome t (Event.File line) o = o ≡ plain_outcome (file_step t line).said
HasFileOutcome t event o = Unit {0}

-- ---- whole journals

-- the entries are those of the events, with the orders of files behind their lines
abbrev pub FollowsFrom : FileState → List Entry → List Event → Type 0
FollowsFrom fs [] [] = Unit {0}
FollowsFrom fs [] (x ∷ xs) = ⊥
FollowsFrom fs (e ∷ es) [] = ⊥
FollowsFrom fs (e ∷ es) (x ∷ xs) =
    (e.event ≡ x)
    × HasFileOutcome fs.table x e.outcome
    × FollowsFrom (files_after fs e) es (order_behind x e.outcome.said ++ xs)

-- from the setup's opening on
abbrev pub Follows : SetupValue → List Entry → List Event → Type 0
Follows setup es events = FollowsFrom (initial_files setup) es events
