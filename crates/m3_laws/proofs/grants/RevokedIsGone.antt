-- Under a grant that is done all are gone.
use Rattle.std.proofs.Common.{◌≡◌, ℕ, suc, Bool, true, false, List, [], ◌∷◌, get_or, Some, None, refl, sym, subst, ◌∙◌, ap, arith}
use Rattle.std.specs.Prelude.{Option}
use Rattle.std.specs.List.{list_any}
use Rattle.m3_base.specs.declared.ids.FlightId.{FlightId}
use Rattle.m3_base.specs.declared.message.Message.{Message}
use Rattle.m3_base.specs.declared.packet.Packet.{Packet}
use Rattle.m3_base.specs.declared.command.Refusal.{Refusal}
use Rattle.m3_base.specs.Lists.Counting.{one}
use Rattle.m3_base.specs.Ideal.Flights.{flight, same_name, name_of}
use Rattle.m3_base.specs.Ideal.Context.{Endpoint, Free, Sends, Receives, Reaches, Context, endpoint}
use Rattle.m3_base.specs.Ideal.Landing.{land_refusal, sends_by, is_record_of}
use Rattle.m3_base.specs.Ideal.State.{Standing, Live, Closing, Closed, Done, Grant, State, context_of, grant_in, parent_of, is_done, is_open}
use Rattle.m3_laws.specs.GrantInvariant.{is_ready, is_open_grant, is_close_sent, KeepsOpen, GrantInvariant}
use Rattle.m3_laws.specs.Laws.{is_close_of, parent_at, IsPath, IsGone, GoneAt, GoneLaw, is_sent_through}
use Rattle.m3_base.specs.Ideal.Opening.{opening}
use Rattle.m3_base.specs.Ideal.MessageTraces.{final}
use Rattle.m3_laws.proofs.credits.Counting.{one_found}
use Rattle.m3_laws.proofs.invariant.records.RecordsOfGrants.{record_open}
use Rattle.m3_laws.specs.Invariant.{Invariant}
use Rattle.m3_laws.proofs.invariant.step.Invariant.{invariant_ever}
use Rattle.m3_laws.proofs.grants.OpenWhileUsed.{through_open}
use Rattle.m3_base.specs.Ideal.Step.{is_install_of}

done_closed : (t : Standing) → is_done t ≡ true → is_open t ≡ false
done_closed Done e = refl
done_closed Live e = absurd (cc)
done_closed Closing e = absurd (cc)
done_closed Closed e = absurd (cc)

none_sends : (g : ℕ) (es : List Endpoint) → ((i : ℕ) → is_record_of g (get_or es i Free) ≡ false) → list_any (sends_by g) es ≡ false
none_sends g [] h = refl
none_sends g (e ∷ es) h = let z = by_end e (h 0) in let t = none_sends g es (λ i. h (suc i)) in grind (arith, z, t)
  where
    by_end : (e : Endpoint) → is_record_of g e ≡ false → sends_by g e ≡ false
    by_end Free h = refl
    by_end (Sends r) h = h
    by_end (Receives r) h = refl
    by_end (Reaches r) h = refl

pub refused_there : (g : ℕ) (m : Message) (e : Endpoint) → is_record_of g e ≡ false → land_refusal g m e ≡ Some Refusal.Revoked
refused_there g m Free h = refl
refused_there g m (Sends r) h = refl
refused_there g m (Reaches r) h = refl
refused_there g m (Receives r) h = grind (arith, h)

module _ (s : State) (inv : Invariant s) where
  law : GrantInvariant s
  law = inv.lawful

  gone_one : (g : ℕ) (x : Grant) → grant_in s.grants g ≡ Some x → is_done x.standing ≡ true → IsGone s g x
  gone_one g x e d = record {
    done = d;
    records = λ a ep c at. none_at a ep c at;
    installed = λ id p find. by_install id p find (is_install_of g p) refl;
    closed = λ id p find. by_close id p find (is_close_of g p) refl;
    sent = λ id p find. by_sent id p find (is_sent_through g p) refl;
    credit = λ a c at. none_sends g c.endpoints (λ i. none_at a i c at);
    reply = λ a ep c m at. refused_there g m (endpoint c ep) (none_at a ep c at);
  }
    where
      shut : is_open_grant (grant_in s.grants g) ≡ false
      shut = ap is_open_grant e ∙ done_closed x.standing d

      unsent : is_close_sent (grant_in s.grants g) ≡ false
      unsent = let z = done_closed x.standing d in grind (arith, e, z)

      none_at : (a ep : ℕ) (c : Context) → context_of a s.contexts ≡ Some c → is_record_of g (endpoint c ep) ≡ false
      none_at a ep c at = by_is (is_record_of g (endpoint c ep)) refl
        where
          by_is : (b : Bool) → is_record_of g (endpoint c ep) ≡ b → b ≡ false
          by_is false w = refl
          by_is true w = let t = record_open s law.placed g a ep c at w in let u : is_open_grant (grant_in s.grants g) ≡ false = shut in absurd (cc)

      by_install : (id : FlightId) (p : Packet) → flight id s.flights ≡ Some p → (b : Bool) → is_install_of g p ≡ b → b ≡ false
      by_install id p find false w = refl
      by_install id p find true w = let n = one_found name_of same_name (is_install_of g) id p s.flights find w in absurd (omega (arith, n, law.placed.presence g, ap one shut))

      by_sent : (id : FlightId) (p : Packet) → flight id s.flights ≡ Some p → (b : Bool) → is_sent_through g p ≡ b → b ≡ false
      by_sent id p find false w = refl
      by_sent id p find true w = let t = through_open s inv g id p find w in let u : is_open_grant (grant_in s.grants g) ≡ false = shut in absurd (cc)

      by_close : (id : FlightId) (p : Packet) → flight id s.flights ≡ Some p → (b : Bool) → is_close_of g p ≡ b → b ≡ false
      by_close id p find false w = refl
      by_close id p find true w = let n = one_found name_of same_name (is_close_of g) id p s.flights find w in absurd (omega (arith, n, law.placed.closings g, ap one unsent))

  below_done : (g p : ℕ) (x y : Grant) → grant_in s.grants g ≡ Some x → parent_of x.line ≡ Some p → grant_in s.grants p ≡ Some y → is_done y.standing ≡ true → is_done x.standing ≡ true
  below_done g p x y e u w d = by_done (is_done x.standing) refl
    where
      by_done : (b : Bool) → is_done x.standing ≡ b → b ≡ true
      by_done true v = refl
      by_done false v =
          let r : KeepsOpen s.grants (Some p) = subst (KeepsOpen s.grants) u ((law.placed.grants g x e).above v) in
          let t : is_open y.standing ≡ false = done_closed y.standing d in
          absurd (grind (arith, r, w, t))

  path_done : (r g : ℕ) (y x : Grant) (path : List ℕ) → grant_in s.grants r ≡ Some y → is_done y.standing ≡ true → IsPath s.grants r g path → grant_in s.grants g ≡ Some x → is_done x.standing ≡ true
  path_done r g y x [] at d p e =
      let z : grant_in s.grants r ≡ Some x = subst (λ k. grant_in s.grants k ≡ Some x) p e in
      let q : y ≡ x = cc in
      subst (λ k. is_done k.standing ≡ true) q d
  path_done r g y x (q ∷ ps) at d p e = by_parent (grant_in s.grants q) refl (λ z w. path_done r q y z ps at d p.1 w)
    where
      up : parent_of x.line ≡ Some q
      up = ap parent_at (sym e) ∙ p.0

      by_open : (o : Option Grant) → grant_in s.grants q ≡ o → is_ready o ≡ true → o ≡ None → ⊥
      by_open None w r z = absurd (cc)
      by_open (Some k) w r z = absurd (cc)

      by_parent : (o : Option Grant) → grant_in s.grants q ≡ o → ((z : Grant) → grant_in s.grants q ≡ Some z → is_done z.standing ≡ true) → is_done x.standing ≡ true
      by_parent (Some z) w ih = below_done g q x z e up w (ih z w)
      by_parent None w ih = by_done (is_done x.standing) refl
        where
          by_done : (b : Bool) → is_done x.standing ≡ b → b ≡ true
          by_done true v = refl
          by_done false v =
              let k : KeepsOpen s.grants (Some q) = subst (KeepsOpen s.grants) up ((law.placed.grants g x e).above v) in
              absurd (by_open (grant_in s.grants q) refl k w)

  pub gone_at : GoneAt s
  gone_at r g y x path at d p e = gone_one g x e (path_done r g y x path at d p e)

pub gone_law : GoneLaw
gone_law setup steps o p = gone_at (final (opening setup.memory setup.lines) steps) (invariant_ever setup steps o p)
