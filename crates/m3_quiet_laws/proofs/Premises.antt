-- The facts under the sum that speak of the ideal state alone.
use Rattle.std.proofs.Common.{◌≡◌, ℕ, true, false, List, Some, None, refl, subst, ◌∙◌, ap, arith}
use Rattle.std.specs.Prelude.{Option, ◌==◌}
use Rattle.m3_base.specs.declared.packet.Fresh.{Fresh}
use Rattle.m3_base.specs.Ideal.Context.{Context, Endpoint, Free, Sends, Receives, Reaches, endpoint, endpoint_at}
use Rattle.m3_base.specs.Ideal.State.{State, Grant, context_of, grant_in, holder, is_done}
use Rattle.m3_laws.specs.GrantInvariant.{HeldGrant, IsHeldAt, FormLawful, form_of, is_open_grant, RecordsMatchGrants}
use Rattle.m3_laws.proofs.invariant.records.RecordsOfGrants.{open_undone, record_open}
use Rattle.m3_quiet_laws.specs.Grounds.{LawsGround}
use Rattle.m3_base.specs.Ideal.Landing.{is_record_of}
use Rattle.std.proofs.lemmas.Bool.{eqb-true}

-- a record's form names its holder
holder_of : (gs : List Grant) (a ep g h : ℕ) (x : Grant) (f : Fresh) → (h == g) ≡ true → IsHeldAt (grant_in gs h) a ep f → grant_in gs g ≡ Some x → holder x.line ≡ a
holder_of gs a ep g h x f same held found = it.act
  where
    it : HeldGrant x a ep f
    it = subst (λ o. IsHeldAt o a ep f) (ap (grant_in gs) (eqb-true h g same) ∙ found) held

held_form : (gs : List Grant) (a ep g : ℕ) (x : Grant) (e : Endpoint) → is_record_of g e ≡ true → FormLawful gs a ep (form_of e) → grant_in gs g ≡ Some x → holder x.line ≡ a
held_form gs a ep g x Free h form found = absurd (cc)
held_form gs a ep g x (Sends r) h form found = holder_of gs a ep g r.grant x (Fresh.Send r.grant r.to r.to_ep r.to_grant r.label r.size r.limit) h form found
held_form gs a ep g x (Receives r) h form found = holder_of gs a ep g r.grant x (Fresh.Receive r.grant r.slots r.size) h form found
held_form gs a ep g x (Reaches r) h form found = holder_of gs a ep g r.grant x (Fresh.Memory r.grant r.start r.length r.perm) h form found

held_by : (s : State) → RecordsMatchGrants s → (a ep g : ℕ) (x : Grant) (o : Option Context) → context_of a s.contexts ≡ o → is_record_of g (endpoint_at o ep) ≡ true → grant_in s.grants g ≡ Some x → holder x.line ≡ a
held_by s placed a ep g x None e h found = absurd (cc)
held_by s placed a ep g x (Some c) e h found = held_form s.grants a ep g x (endpoint c ep) h (placed.records a c e ep) found

stands_by : (s : State) → RecordsMatchGrants s → (a ep g : ℕ) (x : Grant) (o : Option Context) → context_of a s.contexts ≡ o → is_record_of g (endpoint_at o ep) ≡ true → grant_in s.grants g ≡ Some x → is_done x.standing ≡ false
stands_by s placed a ep g x None e h found = absurd (cc)
stands_by s placed a ep g x (Some c) e h found = open_undone x.standing (subst (λ o. is_open_grant o ≡ true) found (record_open s placed g a ep c e h))

pub laws_ground : LawsGround
laws_ground s law = record {
  flights = law.lawful.placed.distinct;
  fresh = λ a c e. (law.lawful.traffic.contexts a c e).apart c.next (omega arith);
  fresh_kernel = law.lawful.traffic.orders s.kernel_next (omega arith);
  holders = λ a ep g x h e. held_by s law.lawful.placed a ep g x (context_of a s.contexts) refl h e;
  records = λ a ep g x h e. stands_by s law.lawful.placed a ep g x (context_of a s.contexts) refl h e;
}
