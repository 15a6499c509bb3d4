-- An unread message is short.
use Rattle.std.proofs.Common.{◌≡◌, ◌≤◌, true, List, [], ◌∷◌, length, Some, None, ap, subst, ◌∙◌, arith}
use Rattle.std.specs.Prelude.{slice_get}
use Rattle.std.specs.List.{list_all}
use Rattle.std.proofs.lemmas.Bool.Decides.{nat_tests}
use Rattle.m3_base.specs.declared.message.Message.{Message}
use Rattle.m3_base.specs.Ideal.Acceptance.{is_message}
use Rattle.m3_base.specs.Ideal.Context.{Endpoint}
use Rattle.m3_base.specs.Ideal.EndpointStep.{oldest_at}
use Rattle.m3_core.specs.MessageInvariant.{IsSoundRecord}
use Rattle.m3_endpoint.specs.declared.endpoint.Record.{Record}
use Rattle.m3_endpoint.specs.RecordView.{endpoint_of}

first_sound : (ms : List Message) (m : Message) → list_all is_message ms ≡ true → slice_get ms 0 ≡ Some m → length m.payload ≤ 512
first_sound [] m all e = absurd (cc)
first_sound (x ∷ ms) m all e =
    let same : x ≡ m = cc in
    let sound : is_message x ≡ true = grind (arith, all) in
    subst (λ (y : Message). length y.payload ≤ 512) same (grind (arith, nat_tests, sound))

pub short_front : (r : Record) (e : Endpoint) (m : Message) → IsSoundRecord r → endpoint_of r ≡ e → oldest_at e ≡ Some m → length m.payload ≤ 512
short_front r e m sound is there = by_record r sound (ap oldest_at is ∙ there)
  where
    by_record : (r : Record) → IsSoundRecord r → oldest_at (endpoint_of r) ≡ Some m → length m.payload ≤ 512
    by_record (Record.Receive (Some x)) s h = first_sound x.unread m s.0 h
    by_record (Record.Receive None) s h = absurd s
    by_record (Record.Send x) s h = absurd (cc)
    by_record (Record.Memory x) s h = absurd (cc)
    by_record Record.Free s h = absurd (cc)
