-- A reply that lands brings a credit that finds room.
use Rattle.std.proofs.Common.{◌≡◌, ℕ, zero, suc, Bool, true, false, List, [], ◌∷◌, None, refl, sym, ap, ◌∙◌, arith}
use Rattle.std.specs.Prelude.{◌&&◌, ◌||◌, ◌==◌, Option, is_some, if◌then◌else◌, slice_set, slice_index_or}
use Rattle.m3_base.specs.declared.message.Message.{Message}
use Rattle.m3_base.specs.declared.command.Refusal.{Refusal}
use Rattle.m3_base.specs.Ideal.Context.{Endpoint, Free, Sends, Receives, Reaches, Context, endpoint, with_endpoint}
use Rattle.m3_base.specs.Ideal.Landing.{land_refusal, with_message}
use Rattle.m3_base.specs.Ideal.Acceptance.{is_message, has_room_if, takes_credit, fits_message, send_of}
use Rattle.m3_base.specs.Ideal.EndpointStep.{joined_if}
use Rattle.std.proofs.lemmas.Bool.{and_parts}

pub message_fits : (c : Context) (ep g : ℕ) (m : Message) → fits_message c ep g m ≡ true → is_message m ≡ true
message_fits c ep g m h = (and_parts (is_message m) _ h).0

last : (a b d : Bool) → (a || b || d) ≡ true → a ≡ false → b ≡ false → d ≡ true
last a b d h p q = grind arith

-- a message that joins changes no send record
send_of_joined : (g : ℕ) (m : Message) (es : List Endpoint) (i : ℕ) → send_of g (slice_set es i (with_message m (slice_index_or es i Free))) ≡ send_of g es
send_of_joined g m [] i = refl
send_of_joined g m (Free ∷ es) zero = refl
send_of_joined g m (Sends r ∷ es) zero = refl
send_of_joined g m (Receives r ∷ es) zero = refl
send_of_joined g m (Reaches r ∷ es) zero = refl
send_of_joined g m (Free ∷ es) (suc i) = send_of_joined g m es i
send_of_joined g m (Sends r ∷ es) (suc i) = grind (arith, send_of_joined g m es i)
send_of_joined g m (Receives r ∷ es) (suc i) = send_of_joined g m es i
send_of_joined g m (Reaches r ∷ es) (suc i) = send_of_joined g m es i

-- after a reply has joined
pub room_after : (c : Context) (ep g : ℕ) (m : Message) → fits_message c ep g m ≡ true → land_refusal g m (endpoint c ep) ≡ None → (m.header.flags == 0) ≡ false
    → takes_credit m.header.send (with_endpoint c ep (with_message m (endpoint c ep))) ≡ true
room_after c ep g m h n f =
    ap has_room_if (send_of_joined m.header.send m c.endpoints ep)
    ∙ last (m.header.flags == 0) (is_some (land_refusal g m (endpoint c ep))) (takes_credit m.header.send c) (and_parts (is_message m) _ h).1 f (ap is_some n)

pub room_joined : (c d : Context) (ep g : ℕ) (m : Message) (x : Option Refusal) → fits_message c ep g m ≡ true → x ≡ land_refusal g m (endpoint c ep) → x ≡ None
    → d ≡ with_endpoint c ep (joined_if x m (endpoint c ep)) → (m.header.flags == 0) ≡ false → takes_credit m.header.send d ≡ true
room_joined c d ep g m x h n e k f =
    let joins : d ≡ with_endpoint c ep (with_message m (endpoint c ep)) = k ∙ ap (λ y. with_endpoint c ep (joined_if y m (endpoint c ep))) e in
    ap (takes_credit m.header.send) joins ∙ room_after c ep g m h (sym n ∙ e) f
