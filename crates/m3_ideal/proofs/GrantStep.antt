-- A grant is made, revoked, closed and done.
use Rattle.std.proofs.Common.{◌≡◌, ℕ, ◌+◌, Bool, true, false, List, [], ◌∷◌, ◌++◌, length, get_or-set_same, get_or-set_other, length-set, Some, None, refl, sym, subst, ap, ◌∙◌, arith}
use Rattle.std.specs.Prelude.{Option, slice_set, is_none, if◌then◌else◌}
use Rattle.m3_base.specs.declared.event.No.{No}
use Rattle.m3_base.specs.declared.order.GrantLine.{GrantLine}
use Rattle.m3_base.specs.declared.packet.Fresh.{Fresh}
use Rattle.m3_base.specs.declared.packet.Packet.{Packet}
use Rattle.m3_base.specs.Ideal.Flights.{flight_name, new_flight}
use Rattle.m3_base.specs.Ideal.Context.{Free, Context, with_endpoint}
use Rattle.m3_base.specs.Ideal.GrantRules.{make_refusal, new_grant, change_grant, may_close, to_sent}
use Rattle.m3_base.specs.Ideal.State.{Closed, Grant, State, context_of, put_context, holder, holder_ep, grant_in}
use Rattle.m3_base.specs.Ideal.Step.{Not_made, Makes, Sends_close, Frees, IdealResult, make_in, make_for, send_close_in, free_in, closed_in}
use Rattle.m3_ideal.specs.Contexts.{AtKept}
use Rattle.m3_ideal.specs.Ideal.NextNumbers.{AreNexts}
use Rattle.m3_ideal.specs.Landing.{Is_freed}
use Rattle.m3_ideal.specs.Making.{Forms, form_in, line_in}
use Rattle.m3_ideal.proofs.Numbers.{found_under, put_same}

-- ---- the kernel's flights

-- the kernel's next number is used
pub kernel_nexts : (nexts news : List ℕ) (cs : List Context) (last number : ℕ) → AreNexts nexts cs last → number ≡ last → news ≡ slice_set nexts 64 (number + 1) → AreNexts news cs (last + 1)
kernel_nexts nexts news cs last number k n e =
    subst (λ z. AreNexts z cs (last + 1)) (sym e) (record {
      size = length-set nexts 64 (number + 1) ∙ k.size;
      of_kernel = get_or-set_same nexts 64 (number + 1) 0 (omega (arith, k.size)) ∙ ap (λ z. z + 1) n;
      of_acts = λ a h. get_or-set_other nexts 64 a (number + 1) 0 (λ w. omega (arith, w, h)) ∙ k.of_acts a h;
    })

-- ---- making

abbrev made_result : State → GrantLine → ℕ → Fresh → Option IdealResult
made_result s line g f =
    Some (record {
      word = Makes g (flight_name 64 s.kernel_next);
      state = record s {
        flights = new_flight (Packet.Install (flight_name 64 s.kernel_next) (holder line) (holder_ep line) f) s.flights;
        kernel_next = s.kernel_next + 1;
        grants = s.grants ++ new_grant line f ∷ [];
      };
    })

abbrev made_by : State → GrantLine → Option Context → Option No → Option Fresh → Option IdealResult
made_by s line None why f = None
made_by s line (Some c) why f = make_in s line why f

made_is : (s : State) (line : GrantLine) (o : Option Context) → make_for s line o ≡ made_by s line o (make_refusal (length s.memory) s.grants line) (form_in line s.grants)
made_is s line None = refl
made_is s line (Some c) = refl

somebody : (s : State) (line : GrantLine) (o : Option Context) (why : Option No) (f : Option Fresh) → is_none o ≡ false → made_by s line o why f ≡ make_in s line why f
somebody s line None why f e = absurd cc
somebody s line (Some c) why f e = refl

pub make_why : (s : State) (line : GrantLine) (why : No) → is_none (context_of (holder line) s.contexts) ≡ false → make_refusal (length s.memory) s.grants line ≡ Some why
    → make_for s line (context_of (holder line) s.contexts) ≡ Some (record { word = Not_made why; state = s })
make_why s line why there e =
    let o = context_of (holder line) s.contexts in
    made_is s line o ∙ somebody s line o _ _ there ∙ ap (λ z. make_in s line z (form_in line s.grants)) e

pub make_none : (s : State) (line : GrantLine) → is_none (context_of (holder line) s.contexts) ≡ false → make_refusal (length s.memory) s.grants line ≡ None → form_in line s.grants ≡ None
    → make_for s line (context_of (holder line) s.contexts) ≡ None
make_none s line there e k =
    let o = context_of (holder line) s.contexts in
    made_is s line o ∙ somebody s line o _ _ there ∙ ap (λ z. make_in s line z (form_in line s.grants)) e ∙ ap (make_in s line None) k

pub make_step : (s : State) (line : GrantLine) (g : ℕ) (f : Fresh) → is_none (context_of (holder line) s.contexts) ≡ false → make_refusal (length s.memory) s.grants line ≡ None → Forms (Some (g, f)) line s.grants
    → make_for s line (context_of (holder line) s.contexts) ≡ made_result s line g f
make_step s line g f there e k =
    let o = context_of (holder line) s.contexts in
    made_is s line o ∙ somebody s line o _ _ there ∙ ap (λ z. make_in s line z (form_in line s.grants)) e ∙ ap (make_in s line None) k.1 ∙ ap (λ z. made_result s line z f) (sym k.0)

-- ---- a Close goes out

abbrev sent_result : State → ℕ → GrantLine → Option IdealResult
sent_result s g line =
    Some (record {
      word = Sends_close g (flight_name 64 s.kernel_next);
      state = record s {
        flights = new_flight (Packet.Close (flight_name 64 s.kernel_next) (holder line) (holder_ep line) g) s.flights;
        kernel_next = s.kernel_next + 1;
        grants = change_grant s.grants g to_sent;
      };
    })

pub no_close : (s : State) (g : ℕ) (o : Option Grant) → may_close s.grants g o ≡ false → send_close_in s g o ≡ None
no_close s g None e = refl
no_close s g (Some x) e = ap (λ b. if b then sent_result s g x.line else None) e

pub close_needs_grant : (s : State) (g : ℕ) (o : Option Grant) → line_in o ≡ None → send_close_in s g o ≡ None
close_needs_grant s g None e = refl
close_needs_grant s g (Some x) e = absurd cc

pub send_step : (s : State) (g : ℕ) (line : GrantLine) (o : Option Grant) → may_close s.grants g o ≡ true → line_in o ≡ Some line → send_close_in s g o ≡ sent_result s g line
send_step s g line None e k = absurd cc
send_step s g line (Some x) e k =
    let same : x.line ≡ line = cc in
    ap (λ b. if b then sent_result s g x.line else None) e ∙ ap (sent_result s g) same

-- ---- an endpoint becomes free

pub free_needs_grant : (s : State) (g : ℕ) (o : Option Grant) → line_in o ≡ None → closed_in s g o ≡ None
free_needs_grant s g None e = refl
free_needs_grant s g (Some x) e = absurd cc

pub freed_by_line : (s : State) (g : ℕ) (line : GrantLine) (o : Option Grant) → line_in o ≡ Some line → closed_in s g o ≡ free_in s g (holder_ep line) (context_of (holder line) s.contexts)
freed_by_line s g line None e = absurd cc
freed_by_line s g line (Some x) e = let same : x.line ≡ line = cc in ap (λ z. free_in s g (holder_ep z) (context_of (holder z) s.contexts)) same

abbrev freed_result : State → ℕ → List Context → Option IdealResult
freed_result s g ds = Some (record { word = Frees g; state = record s { contexts = ds; grants = change_grant s.grants g (λ y. record y { standing = Closed }) } })

pub free_step : (s : State) (g ep : ℕ) (o : Option Context) (ds : List Context) → AtKept o s.contexts ds (Is_freed true ep g) → free_in s g ep o ≡ freed_result s g ds
free_step s g ep None ds h = absurd h
free_step s g ep (Some c) ds h =
    ap (λ b. if b then freed_result s g (put_context (with_endpoint c ep Free) s.contexts) else None) h.3.1.0
    ∙ ap (λ z. freed_result s g (put_context z s.contexts)) (sym h.3.1.1) ∙ ap (freed_result s g) (sym h.2)

pub stays_taken : (s : State) (g ep a : ℕ) (ds : List Context) → AtKept (context_of a s.contexts) s.contexts ds (Is_freed false ep g) → (free_in s g ep (context_of a s.contexts) ≡ None) × (ds ≡ s.contexts)
stays_taken s g ep a ds h = by_context (context_of a s.contexts) refl h
  where
    by_context : (o : Option Context) → o ≡ context_of a s.contexts → AtKept o s.contexts ds (Is_freed false ep g) → (free_in s g ep o ≡ None) × (ds ≡ s.contexts)
    by_context None at k = absurd k
    by_context (Some c) at k = (
      ap (λ b. if b then freed_result s g (put_context (with_endpoint c ep Free) s.contexts) else None) k.3.1.0,
      k.2 ∙ ap (λ z. put_context z s.contexts) k.3.1.1 ∙ put_same c s.contexts (found_under a c c s.contexts (sym at) refl),
    )

pub not_freed : (s v : State) (b : Bool) (g a ep : ℕ) (line : GrantLine) (ds : List Context) → s ≡ v → b ≡ false → line_in (grant_in v.grants g) ≡ Some line → a ≡ holder line → ep ≡ holder_ep line
    → AtKept (context_of a s.contexts) s.contexts ds (Is_freed b ep g) → (closed_in v g (grant_in v.grants g) ≡ None) × (record s { contexts = ds } ≡ v)
not_freed s v b g a ep line ds view e line_is here there h =
    let both = stays_taken s g ep a ds (subst (λ z. AtKept (context_of a s.contexts) s.contexts ds (Is_freed z ep g)) e h) in
    subst (λ z. line_in (grant_in z.grants g) ≡ Some line → (closed_in z g (grant_in z.grants g) ≡ None) × (record s { contexts = ds } ≡ z)) view
    (λ k. (freed_by_line s g line (grant_in s.grants g) k ∙ ap (λ z. free_in s g z (context_of (holder line) s.contexts)) (sym there) ∙ ap (λ z. free_in s g ep (context_of z s.contexts)) (sym here) ∙ both.0, ap (λ z. record s { contexts = z }) both.1)) line_is
