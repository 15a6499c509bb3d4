-- What lands at a context does, from what the call answers.
use Rattle.std.specs.Prelude.{◌≡◌, ◌==◌, if◌then◌else◌, ℕ, Bool, true, false, not, ◌&&◌, Option, Some, None, Result, Ok, Err}
use Rattle.m3_base.specs.declared.message.Message.{Message}
use Rattle.m3_base.specs.declared.command.Refusal.{Refusal}
use Rattle.m3_base.specs.declared.command.Answer.{Answer}
use Rattle.m3_base.specs.declared.packet.Fresh.{Fresh}
use Rattle.m3_base.specs.Ideal.Context.{Flying, Free, Context, endpoint, with_endpoint, new_endpoint}
use Rattle.m3_base.specs.Ideal.Landing.{land_refusal, after_message, has_send, with_credit, has_live, has_closing, closed_at, flies_at, flying_at, context_after_answer, freed_grant}

-- a reply gives its credit
abbrev pub credited_by : Message → Context → Context
credited_by m c = if m.header.flags == 0 then c else with_credit m.header.send c

-- a message that isn't refused joins the unread ones, or comes back
abbrev pub Lands : Result (Option Refusal) Message → ℕ → ℕ → Message → Context → Context → Type 0
Lands (Ok None) ep g m old new = (land_refusal g m (endpoint old ep) ≡ None) × (new ≡ after_message ep m old)
Lands (Ok (Some why)) ep g m old new = (land_refusal g m (endpoint old ep) ≡ Some why) × (new ≡ old)
Lands (Err back) ep g m old new = (back ≡ m) × (new ≡ old)

-- a credit comes, and the answer says whether an endpoint has its grant
abbrev pub GivesTo : {E : Type 0} → ℕ → Result Bool E → Context → Context → Type 0
GivesTo g (Ok there) c d = (there ≡ has_send g c) × (d ≡ with_credit g c)
GivesTo g (Err e) c d = d ≡ c

abbrev pub InstallsTo : {T E : Type 0} → ℕ → Fresh → Result T E → Context → Context → Type 0
InstallsTo ep f (Ok done) c d = d ≡ with_endpoint c ep (new_endpoint f)
InstallsTo ep f (Err e) c d = d ≡ c

-- a live record of the grant is closing then
abbrev pub Closes : Option Bool → ℕ → ℕ → Context → Context → Type 0
Closes None ep g old new = (has_live g (endpoint old ep) ≡ false) × (new ≡ old)
Closes (Some flies) ep g old new =
    (has_live g (endpoint old ep) ≡ true)
    × (flies ≡ flies_at ep old)
    × (new ≡ with_endpoint old ep (closed_at (endpoint old ep)))

-- the command ends, where it flies
abbrev pub Settles : {E : Type 0} → Result (Option (Option ℕ)) E → Answer → Option Flying → Context → Context → Type 0
Settles (Ok None) answer f old new = (f ≡ None) × (new ≡ old)
Settles (Ok (Some freed)) answer None old new = ⊥
Settles (Ok (Some freed)) answer (Some f) old new = (freed ≡ freed_grant f.ep new) × (new ≡ context_after_answer f answer old)
Settles (Err e) answer f old new = new ≡ old

-- of the command of this number
abbrev pub SettlesBy : {E : Type 0} → Result (Option (Option ℕ)) E → ℕ → Answer → Context → Context → Type 0
SettlesBy r number answer c d = Settles r answer (flying_at number c.flying) c d

-- the endpoint of a closing record with no flying command becomes free
abbrev pub Is_freed : Bool → ℕ → ℕ → Context → Context → Type 0
Is_freed true ep g old new = ((has_closing g (endpoint old ep) && not (flies_at ep old)) ≡ true) × (new ≡ with_endpoint old ep Free)
Is_freed false ep g old new = ((has_closing g (endpoint old ep) && not (flies_at ep old)) ≡ false) × (new ≡ old)
