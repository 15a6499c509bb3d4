-- At opening no command flies and nothing is fetched, so commands are in order.
use Rattle.std.proofs.Common.{◌≡◌, ℕ, ◌+◌, Bool, true, false, List, [], ◌∷◌, length, Some, None, refl, sym, subst, ◌∙◌, ap, arith}
use Rattle.std.specs.Prelude.{Option, if◌then◌else◌}
use Rattle.m3_base.specs.declared.packet.Packet.{Packet}
use Rattle.m3_base.specs.declared.packet.Fresh.{Fresh}
use Rattle.m3_base.specs.declared.order.GrantLine.{GrantLine}
use Rattle.m3_base.specs.declared.setup_line.SetupLine.{SetupLine}
use Rattle.m3_base.specs.Ideal.Context.{Context, endpoint, with_endpoint, new_endpoint, new_context}
use Rattle.m3_base.specs.Ideal.Landing.{flying_at}
use Rattle.m3_base.specs.Ideal.State.{State, context_of, put_context, new_context_in, act_before, same_act, holder, holder_ep, parent_of, parent_in}
use Rattle.m3_base.specs.Ideal.GrantRules.{form}
use Rattle.m3_base.specs.Ideal.Opening.{opening, with_line, with_lines, state_with_grant, contexts_with_record}
use Rattle.m3_laws.specs.CommandFlights.{replies_to, Ascends, number_in, fetched_in, TokensAscend, CommandsInOrder}
use Rattle.m3_laws.proofs.invariant.step.OpeningHolds.{free_at}
use Rattle.m3_base.specs.Lists.Counting.{one, how_many}
use Rattle.m3_laws.proofs.invariant.commands.ChangeKeeps.{each_set}
use Rattle.m3_laws.proofs.invariant.commands.StepKeeps.{InOrder}
use Rattle.m3_base.specs.Ideal.ReceiveRecord.{has_mark}
use Rattle.std.proofs.lemmas.Option.{same_Some}

-- ---- opening: no command flies, and nothing is fetched

record IsIdle (c : Context) : Type 0 where
  flying : c.flying ≡ []
  fetched : (ep t : ℕ) → fetched_in t (endpoint c ep) ≡ None
  tokens : (ep : ℕ) → TokensAscend (endpoint c ep)

abbrev AreIdle : List Context → Type 0
AreIdle [] = Unit {0}
AreIdle (c ∷ cs) = IsIdle c × AreIdle cs

idle_new : (a : ℕ) → IsIdle (new_context a)
idle_new a = record { flying = refl; fetched = λ ep t. ap (fetched_in t) (free_at 16 ep); tokens = λ ep. subst TokensAscend (sym (free_at 16 ep)) tt }

idle_opened : (c : Context) (ep : ℕ) (f : Fresh) → IsIdle c → IsIdle (with_endpoint c ep (new_endpoint f))
idle_opened c ep f h = record {
  flying = h.flying;
  fetched = λ i t. each_set (λ j e. fetched_in t e ≡ None) c ep (new_endpoint f) (λ j. h.fetched j t) (none f t) i;
  tokens = λ i. each_set (λ j e. TokensAscend e) c ep (new_endpoint f) h.tokens (ascends f) i;
}
  where
    none : (f : Fresh) (t : ℕ) → fetched_in t (new_endpoint f) ≡ None
    none (Fresh.Send g a b c l s n) t = refl
    none (Fresh.Receive g slots size) t = refl
    none (Fresh.Memory g start len perm) t = refl

    ascends : (f : Fresh) → TokensAscend (new_endpoint f)
    ascends (Fresh.Send g a b c l s n) = tt
    ascends (Fresh.Receive g slots size) = omega arith
    ascends (Fresh.Memory g start len perm) = tt

idle_inserted : (d : Context) (cs : List Context) → IsIdle d → AreIdle cs → AreIdle (new_context_in d cs)
idle_inserted d [] i h = (i, tt)
idle_inserted d (c ∷ cs) i h = by_order (act_before d.act c.act) (idle_inserted d cs i h.1)
  where
    by_order : (b : Bool) → AreIdle (new_context_in d cs) → AreIdle (if b then d ∷ c ∷ cs else c ∷ new_context_in d cs)
    by_order true ih = (i, h)
    by_order false ih = (h.0, ih)

idle_put : (d : Context) (cs : List Context) → IsIdle d → AreIdle cs → AreIdle (put_context d cs)
idle_put d [] i h = tt
idle_put d (c ∷ cs) i h = by_act (same_act d.act c.act) (idle_put d cs i h.1)
  where
    by_act : (b : Bool) → AreIdle (put_context d cs) → AreIdle (if b then d ∷ cs else c ∷ put_context d cs)
    by_act true ih = (i, h.1)
    by_act false ih = (h.0, ih)

idle_found : (a : ℕ) (c : Context) (cs : List Context) → AreIdle cs → context_of a cs ≡ Some c → IsIdle c
idle_found a c [] h e = absurd (cc)
idle_found a c (x ∷ cs) h e = by_act (same_act a x.act) refl (idle_found a c cs h.1)
  where
    by_act : (b : Bool) → same_act a x.act ≡ b → (context_of a cs ≡ Some c → IsIdle c) → IsIdle c
    by_act true w ih = subst IsIdle (same_Some x c (sym (ap (λ b. if b then Some x else context_of a cs) w) ∙ e)) h.0
    by_act false w ih = ih (sym (ap (λ b. if b then Some x else context_of a cs) w) ∙ e)

idle_granted : (s : State) (line : GrantLine) (o : Option Fresh) → AreIdle s.contexts → AreIdle (state_with_grant s line o).contexts
idle_granted s line None h = h
idle_granted s line (Some f) h = by_context (context_of (holder line) s.contexts) refl
  where
    by_context : (o : Option Context) → context_of (holder line) s.contexts ≡ o → AreIdle (contexts_with_record (holder_ep line) f s.contexts o)
    by_context None e = h
    by_context (Some c) e = idle_put (with_endpoint c (holder_ep line) (new_endpoint f)) s.contexts (idle_opened c (holder_ep line) f (idle_found (holder line) c s.contexts h e)) h

idle_line : (s : State) (l : SetupLine) → AreIdle s.contexts → AreIdle (with_line s l).contexts
idle_line s (SetupLine.Act a t) h = idle_inserted (new_context a) s.contexts (idle_new a) h
idle_line s (SetupLine.Grant line) h = idle_granted s line (form (length s.grants + 1) line (parent_in s.grants (parent_of line))) h
idle_line s (SetupLine.Quantum q) h = h
idle_line s (SetupLine.Files g) h = h
idle_line s (SetupLine.Item a c) h = h
idle_line s (SetupLine.AwaitItem a ep) h = h
idle_line s (SetupLine.Writer a m d e chunk ring bytes) h = h
idle_line s (SetupLine.Reader a m d chunk ring fuel) h = h
idle_line s (SetupLine.Boxed a logic fuel) h = h

idle_lines : (s : State) (ls : List SetupLine) → AreIdle s.contexts → AreIdle (with_lines s ls).contexts
idle_lines s [] h = h
idle_lines s (l ∷ ls) h = idle_lines (with_line s l) ls (idle_line s l h)

idle_in_order : (cs : List Context) (fs : List Packet) → AreIdle cs → CommandsInOrder cs fs
idle_in_order cs fs h = record {
  contexts = λ a c e.
      let i = idle_found a c cs h e in
      record {
        numbers = subst (λ z. Ascends number_in 0 z c.next) (sym i.flying) (omega arith);
        tokens = i.tokens;
        marks = λ ep t. ap (how_many (replies_to ep t)) i.flying ∙ sym (ap (λ z. one (has_mark z)) (i.fetched ep t));
      };
  flights = λ a c e n f w.
      let i = idle_found a c cs h e in
      let none : flying_at n c.flying ≡ None = ap (flying_at n) i.flying in
      absurd (grind (arith, none, w));
}

pub opening_in_order : (memory : ℕ) (lines : List SetupLine) → InOrder (opening memory lines)
opening_in_order memory lines = idle_in_order (opening memory lines).contexts (opening memory lines).flights (idle_lines (opening memory []) lines tt)
