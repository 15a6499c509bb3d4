-- Worked rows: the loads 0 and 1, and the summary of a short journal.
use Rattle.std.specs.Prelude.{◌≡◌, ℕ, List, [], ◌∷◌, ◌++◌, Some}
use Rattle.std.proofs.Common.{refl}
use Rattle.m3_base.specs.declared.command.Command.{Command}
use Rattle.m3_base.specs.declared.order.GrantLine.{GrantLine}
use Rattle.m3_base.specs.declared.setup_line.SetupLine.{SetupLine}
use Rattle.m3_base.specs.DriverRun.Budget.{budget}
use Rattle.m3_base.specs.Calls.ShortJournal.{short_journal}
use Rattle.m3_base.specs.Load.Payloads.{load_bytes}
use Rattle.m3_base.specs.Load.Setup.{load_setup}
use Rattle.m3_base.specs.Load.Summary.{Load, Entries, Fetched, Bounced, Switches, summary_lines}

-- the bytes of a few rounds
pub first_bytes : load_bytes 0 0 ≡ 57 ∷ 48 ∷ 0 ∷ 0 ∷ []
first_bytes = refl

pub later_bytes : load_bytes 3 2 ≡ 107 ∷ 218 ∷ 115 ∷ 79 ∷ []
later_bytes = refl

-- eight activities on four tiles, servers' and clients' inboxes, and a send grant to the next
-- client's server
abbrev pub common_lines : List SetupLine
common_lines =
    SetupLine.Act 0 2
    ∷ SetupLine.Act 1 3
    ∷ SetupLine.Act 2 4
    ∷ SetupLine.Act 3 5
    ∷ SetupLine.Act 4 2
    ∷ SetupLine.Act 5 3
    ∷ SetupLine.Act 6 4
    ∷ SetupLine.Act 7 5
    ∷ SetupLine.Quantum 4
    ∷ SetupLine.Grant (GrantLine.Recv 4 0 4 8)
    ∷ SetupLine.Grant (GrantLine.Recv 5 0 4 8)
    ∷ SetupLine.Grant (GrantLine.Recv 6 0 4 8)
    ∷ SetupLine.Grant (GrantLine.Recv 7 0 4 8)
    ∷ SetupLine.Grant (GrantLine.Recv 0 1 4 8)
    ∷ SetupLine.Grant (GrantLine.Recv 1 1 4 8)
    ∷ SetupLine.Grant (GrantLine.Recv 2 1 4 8)
    ∷ SetupLine.Grant (GrantLine.Recv 3 1 4 8)
    ∷ SetupLine.Grant (GrantLine.Send 0 0 2 100 2)
    ∷ SetupLine.Grant (GrantLine.Send 1 0 3 101 2)
    ∷ SetupLine.Grant (GrantLine.Send 2 0 4 102 2)
    ∷ SetupLine.Grant (GrantLine.Send 3 0 1 103 2)
    ∷ []

-- a round of each
abbrev pub client_lines : ℕ → List ℕ → List SetupLine
client_lines a bytes =
    SetupLine.Item a (Command.Send 0 bytes (Some 1))
    ∷ SetupLine.AwaitItem a 1
    ∷ SetupLine.Item a (Command.Fetch 1)
    ∷ SetupLine.Item a (Command.Acknowledge 1 0)
    ∷ []

abbrev pub server_lines : ℕ → List ℕ → List SetupLine
server_lines a bytes =
    SetupLine.AwaitItem a 0
    ∷ SetupLine.Item a (Command.Fetch 0)
    ∷ SetupLine.Item a (Command.Reply 0 0 bytes)
    ∷ []

pub load_0 : load_setup 0 ≡ record { tiles = 6; memory = 65536; lines = common_lines }
load_0 = refl

abbrev pub first_round : List SetupLine
first_round =
    client_lines 0 (57 ∷ 48 ∷ 0 ∷ 0 ∷ [])
    ++ client_lines 1 (1 ∷ 138 ∷ 162 ∷ 238 ∷ [])
    ++ client_lines 2 (201 ∷ 227 ∷ 68 ∷ 221 ∷ [])
    ++ client_lines 3 (145 ∷ 61 ∷ 231 ∷ 203 ∷ [])
    ++ server_lines 4 (89 ∷ 151 ∷ 137 ∷ 186 ∷ [])
    ++ server_lines 5 (33 ∷ 241 ∷ 43 ∷ 169 ∷ [])
    ++ server_lines 6 (233 ∷ 74 ∷ 206 ∷ 151 ∷ [])
    ++ server_lines 7 (177 ∷ 164 ∷ 112 ∷ 134 ∷ [])

pub load_1 :
    load_setup 1 ≡ record { tiles = 6; memory = 65536; lines = common_lines ++ first_round }
load_1 = refl

-- eight activities and twelve grants; a round is 28 items
pub load_0_budget : budget (load_setup 0) 0 ≡ 1344
load_0_budget = refl

pub load_1_budget : budget (load_setup 1) 0 ≡ 3136
load_1_budget = refl

-- a message fetched, a flight bounced, and a switch
pub short_summary :
    summary_lines 7 short_journal ≡ Load 7 ∷ Entries 15 ∷ Fetched 1 ∷ Bounced 1 ∷ Switches 1 ∷ []
short_summary = refl
