-- The load of a number: four clients and four servers that send, reply and acknowledge in so many
-- rounds.
use Rattle.std.specs.Prelude.{ℕ, ◌+◌, ◌%◌, List, [], ◌∷◌, ◌++◌, map, Some}
use Rattle.std.specs.List.{flat_map, range_with_len}
use Rattle.m3_base.specs.declared.command.Command.{Command}
use Rattle.m3_base.specs.declared.order.GrantLine.{GrantLine}
use Rattle.m3_base.specs.declared.setup_line.SetupLine.{SetupLine}
use Rattle.m3_base.specs.Setup.Rules.{SetupValue}
use Rattle.m3_base.specs.Load.Payloads.{load_bytes}

-- ---- the programs

-- a client's round: a send, and its reply awaited, fetched and acknowledged
abbrev pub client_round : ℕ → ℕ → List SetupLine
client_round a k =
    SetupLine.Item a (Command.Send 0 (load_bytes a k) (Some 1))
    ∷ SetupLine.AwaitItem a 1
    ∷ SetupLine.Item a (Command.Fetch 1)
    ∷ SetupLine.Item a (Command.Acknowledge 1 k)
    ∷ []

-- a server's round: a message awaited, fetched and replied to
abbrev pub server_round : ℕ → ℕ → List SetupLine
server_round a k =
    SetupLine.AwaitItem a 0
    ∷ SetupLine.Item a (Command.Fetch 0)
    ∷ SetupLine.Item a (Command.Reply 0 k (load_bytes a k))
    ∷ []

-- so many rounds of an activity
abbrev pub rounds : (ℕ → ℕ → List SetupLine) → ℕ → ℕ → List SetupLine
rounds round n a = flat_map (round a) (range_with_len 0 n)

-- ---- the setup

-- the activities that send
abbrev pub clients : List ℕ
clients = 0 ∷ 1 ∷ 2 ∷ 3 ∷ []

-- the activities that reply
abbrev pub servers : List ℕ
servers = 4 ∷ 5 ∷ 6 ∷ 7 ∷ []

-- an activity, two on each tile
abbrev pub home_line : ℕ → SetupLine
home_line a = SetupLine.Act a (2 + a % 4)

-- a receive endpoint with 4 slots of 8 bytes
abbrev pub inbox_line : ℕ → ℕ → SetupLine
inbox_line ep a = SetupLine.Grant (GrantLine.Recv a ep 4 8)

-- a client's send endpoint, to the server of the next client
abbrev pub send_line : ℕ → SetupLine
send_line a = SetupLine.Grant (GrantLine.Send a 0 (1 + (a + 1) % 4) (100 + a) 2)

-- all lines: activities, receive grants of servers and of clients, send grants, programs
abbrev pub load_lines : ℕ → List SetupLine
load_lines n =
    map home_line (clients ++ servers)
    ++ (SetupLine.Quantum 4 ∷ [])
    ++ map (inbox_line 0) servers
    ++ map (inbox_line 1) clients
    ++ map send_line clients
    ++ flat_map (rounds client_round n) clients
    ++ flat_map (rounds server_round n) servers

-- six tiles, and memory that nobody reaches
abbrev pub load_setup : ℕ → SetupValue
load_setup n = record { tiles = 6; memory = 65536; lines = load_lines n }
