-- The activities that packets and contexts name. A part takes nothing that names one outside of the setup.
use Rattle.std.specs.Prelude.{ℕ, Bool, true, ◌&&◌, nat_le, List, [], ◌∷◌, is_some}
use Rattle.std.specs.List.{list_all}
use Rattle.m3_base.specs.declared.message.Message.{Message}
use Rattle.m3_base.specs.declared.packet.Fresh.{Fresh}
use Rattle.m3_base.specs.declared.packet.Packet.{Packet}
use Rattle.m3_base.specs.Ideal.Context.{Fetched, Endpoint, Free, Sends, Receives, Reaches, Context}
use Rattle.m3_model.specs.Config.Site.{Site, home_of}

-- an activity of the setup
abbrev pub is_home : Site → ℕ → Bool
is_home h a = is_some (home_of a h)

abbrev pub are_homes : Site → List ℕ → Bool
are_homes h acts = list_all (is_home h) acts

-- ---- packets

abbrev pub acts_in_form : Fresh → List ℕ
acts_in_form (Fresh.Send grant to to_ep to_grant label size limit) = to ∷ []
acts_in_form (Fresh.Receive grant slots size) = []
acts_in_form (Fresh.Memory grant start length perm) = []

-- an Install and a Close are the kernel's own
abbrev pub acts_in : Packet → List ℕ
acts_in (Packet.Message to ep g m) = to ∷ m.header.sender ∷ []
acts_in (Packet.Credit id to g) = id.issuer ∷ to ∷ []
acts_in (Packet.Read id g place buffer) = id.issuer ∷ []
acts_in (Packet.Write id g place payload) = id.issuer ∷ []
acts_in (Packet.Answer id answer) = id.issuer ∷ []
acts_in (Packet.Install id to ep f) = to ∷ acts_in_form f
acts_in (Packet.Close id to ep g) = to ∷ []

-- it names activities of the setup alone
abbrev pub is_named : Site → Packet → Bool
is_named h p = are_homes h (acts_in p)

-- ---- contexts

abbrev pub is_from_home : Site → Message → Bool
is_from_home h m = is_home h m.header.sender

abbrev pub is_fetched_from_home : Site → Fetched → Bool
is_fetched_from_home h f = is_from_home h f.message

abbrev pub names_at : Site → Endpoint → Bool
names_at h Free = true
names_at h (Sends r) = is_home h r.to
names_at h (Receives r) = list_all (is_from_home h) r.unread && list_all (is_fetched_from_home h) r.fetched
names_at h (Reaches r) = true

-- its records and messages name activities of the setup alone
abbrev pub is_named_context : Site → Context → Bool
is_named_context h c = list_all (names_at h) c.endpoints

-- the largest next number and next token that a context may come back with: one more than a journal has entries
abbrev pub most_next : ℕ
most_next = 2097153

abbrev pub next_token_at : Endpoint → ℕ
next_token_at (Receives r) = r.next_token
next_token_at Free = 0
next_token_at (Sends r) = 0
next_token_at (Reaches r) = 0

abbrev pub has_bounded_token : Endpoint → Bool
has_bounded_token e = nat_le (next_token_at e) most_next

abbrev pub has_bounded_counters : Context → Bool
has_bounded_counters c = nat_le c.next most_next && list_all has_bounded_token c.endpoints
