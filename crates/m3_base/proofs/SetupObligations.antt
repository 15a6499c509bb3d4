-- A valid setup obeys what the laws of runs need.
use Rattle.std.proofs.Common.{◌≡◌, ◌≢◌, ℕ, ◌+◌, ◌<◌, Bool, true, false, List, [], ◌∷◌, length, get_or, set, length-set, get_or-set_same, get_or-set_other, Some, None, refl, sym, ◌∙◌, ap, arith, replicate}
use Rattle.std.specs.Prelude.{Option, zero, suc, ◌==◌, is_some, is_none, ◌||◌}
use Rattle.std.specs.List.{list_any}
use Rattle.std.proofs.lemmas.Bool.Decides.{nat_tests}
use Rattle.m3_base.specs.declared.order.GrantLine.{GrantLine}
use Rattle.m3_base.specs.declared.packet.Fresh.{Fresh}
use Rattle.m3_base.specs.declared.setup_line.SetupLine.{SetupLine}
use Rattle.m3_base.specs.Ideal.Context.{Context, new_context, new_endpoint, with_endpoint}
use Rattle.m3_base.specs.Ideal.State.{State, Grant, context_of, put_context, new_context_in, holder, holder_ep, parent_of, parent_in}
use Rattle.m3_base.specs.Ideal.GrantRules.{form, holds_at, make_refusal}
use Rattle.m3_base.specs.Ideal.Opening.{with_line, with_lines, state_with_grant, contexts_with_record, opening}
use Rattle.m3_base.specs.Setup.Rules.{Facts, SetupValue, IsValid, AllKept, InRange, no_lines, facts_with_line, facts_with_lines, facts_of, breaks_rule, with_grant, grant_added, home_at}
use Rattle.m3_base.specs.Setup.Obligations.{Declared, LineIsOk, LinesAreOk}
use Rattle.m3_base.proofs.SetupValidity.{grant_allowed}
use Rattle.m3_base.proofs.Options.{none_if_not_some}

-- what the lines say is what the state at opening has
pub record Ties (f : Facts) (s : State) : Type 0 where
  pub grants : f.grants ≡ s.grants
  pub room : length f.homes ≡ 64
  pub homes : (a : ℕ) → is_some (home_at f.homes a) ≡ is_some (context_of a s.contexts)

some_put : (a : ℕ) (d : Context) (cs : List Context) → is_some (context_of a (put_context d cs)) ≡ is_some (context_of a cs)
some_put a d [] = refl
some_put a d (c ∷ cs) = grind (arith, nat_tests, some_put a d cs)

some_new : (a : ℕ) (d : Context) (cs : List Context) → is_some (context_of a (new_context_in d cs)) ≡ ((a == d.act) || is_some (context_of a cs))
some_new a d [] = grind (arith, nat_tests)
some_new a d (c ∷ cs) = grind (arith, nat_tests, some_new a d cs)

declared_of : (o : Option Context) → is_some o ≡ true → Declared o
declared_of None e = absurd (cc)
declared_of (Some c) e = tt

some_installed : (a ep : ℕ) (f : Fresh) (cs : List Context) (o : Option Context) → is_some (context_of a (contexts_with_record ep f cs o)) ≡ is_some (context_of a cs)
some_installed a ep f cs None = refl
some_installed a ep f cs (Some c) = some_put a (with_endpoint c ep (new_endpoint f)) cs

some_granted : (a : ℕ) (s : State) (line : GrantLine) (o : Option Fresh) → is_some (context_of a (state_with_grant s line o).contexts) ≡ is_some (context_of a s.contexts)
some_granted a s line None = refl
some_granted a s line (Some f) = some_installed a (holder_ep line) f s.contexts (context_of (holder line) s.contexts)

grants_granted : (s : State) (line : GrantLine) (o : Option Fresh) → (state_with_grant s line o).grants ≡ with_grant line s.grants o
grants_granted s line None = refl
grants_granted s line (Some f) = refl

homes_set : (homes : List (Option ℕ)) (a b t : ℕ) → length homes ≡ 64 → a < 64 → is_some (home_at (set homes a (Some t)) b) ≡ ((b == a) || is_some (home_at homes b))
homes_set homes a b t r h = by_act (b == a) refl
  where
    by_act : (x : Bool) → (b == a) ≡ x → is_some (home_at (set homes a (Some t)) b) ≡ (x || is_some (home_at homes b))
    by_act true w =
        let e : b ≡ a = grind (arith, nat_tests, w) in
        let put : get_or (set homes a (Some t)) a None ≡ Some t = get_or-set_same homes a (Some t) None (omega arith) in
        rw (e, put) refl
    by_act false w =
        let n : b ≢ a = grind (arith, nat_tests, w) in
        ap is_some (get_or-set_other homes a b (Some t) None n)

pub obeys : (f : Facts) (s : State) (l : SetupLine) → Ties f s → breaks_rule l f ≡ false → InRange l → LineIsOk s l
obeys f s (SetupLine.Act a t) k n r = (none_if_not_some (context_of a s.contexts) (sym (k.homes a) ∙ first_false (is_some (home_at f.homes a)) _ n), r)
  where
    first_false : (a b : Bool) → (a || b) ≡ false → a ≡ false
    first_false false b e = refl
    first_false true b e = absurd (cc)
obeys f s (SetupLine.Grant line) k n r =
    (r.1, (declared_of (context_of (holder line) s.contexts) (sym (k.homes (holder line)) ∙ there (home_at f.homes (holder line)) _ n), rw (sym k.grants) (not_taken f.memory f.grants line (grant_allowed f line n))))
  where
    there : (o : Option ℕ) (b : Bool) → (is_none o || b) ≡ false → is_some o ≡ true
    there None b e = absurd (cc)
    there (Some x) b e = refl

    not_taken : (memory : ℕ) (gs : List Grant) (line : GrantLine) → make_refusal memory gs line ≡ None → list_any (holds_at (holder line) (holder_ep line)) gs ≡ false
    not_taken memory gs line e = grind (arith, e)
obeys f s (SetupLine.Quantum q) k n r = tt
obeys f s (SetupLine.Files g) k n r = tt
obeys f s (SetupLine.Item a c) k n r = tt
obeys f s (SetupLine.AwaitItem a ep) k n r = tt
obeys f s (SetupLine.Writer a m d e chunk ring bytes) k n r = tt
obeys f s (SetupLine.Reader a m d chunk ring fuel) k n r = tt
obeys f s (SetupLine.Boxed a logic fuel) k n r = tt

pub ties : (f : Facts) (s : State) (l : SetupLine) → Ties f s → InRange l → Ties (facts_with_line l f) (with_line s l)
ties f s (SetupLine.Act a t) k r = record {
  grants = k.grants;
  room = length-set f.homes a (Some t) ∙ k.room;
  homes = λ b. homes_set f.homes a b t k.room r ∙ (ap (λ x. (b == a) || x) (k.homes b) ∙ sym (some_new b (new_context a) s.contexts));
}
ties f s (SetupLine.Grant line) k r =
    let o = form (length s.grants + 1) line (parent_in s.grants (parent_of line)) in
    record {
      grants = ap (grant_added line) k.grants ∙ sym (grants_granted s line o);
      room = k.room;
      homes = λ b. k.homes b ∙ sym (some_granted b s line o);
    }
ties f s (SetupLine.Quantum q) k r = record { grants = k.grants; room = k.room; homes = k.homes }
ties f s (SetupLine.Files g) k r = record { grants = k.grants; room = k.room; homes = k.homes }
ties f s (SetupLine.Item a c) k r = record { grants = k.grants; room = k.room; homes = k.homes }
ties f s (SetupLine.AwaitItem a ep) k r = record { grants = k.grants; room = k.room; homes = k.homes }
ties f s (SetupLine.Writer a m d e chunk ring bytes) k r = record { grants = k.grants; room = k.room; homes = k.homes }
ties f s (SetupLine.Reader a m d chunk ring fuel) k r = record { grants = k.grants; room = k.room; homes = k.homes }
ties f s (SetupLine.Boxed a logic fuel) k r = record { grants = k.grants; room = k.room; homes = k.homes }

pub all_obey : (f : Facts) (s : State) (ls : List SetupLine) → Ties f s → AllKept ls f → LinesAreOk s ls
all_obey f s [] k a = tt
all_obey f s (l ∷ ls) k a = (obeys f s l k a.0 a.1.0, all_obey (facts_with_line l f) (with_line s l) ls (ties f s l k a.1.0) a.1.1)

-- the facts of a setup and its opening say the same
pub all_tied : (f : Facts) (s : State) (ls : List SetupLine) → Ties f s → AllKept ls f → Ties (facts_with_lines ls f) (with_lines s ls)
all_tied f s [] k a = k
all_tied f s (l ∷ ls) k a = all_tied (facts_with_line l f) (with_line s l) ls (ties f s l k a.1.0) a.1.1

no_homes : (n a : ℕ) → is_some (home_at (replicate n None) a) ≡ false
no_homes zero a = refl
no_homes (suc n) zero = refl
no_homes (suc n) (suc a) = no_homes n a

pub tied_at_first : (tiles memory : ℕ) → Ties (no_lines tiles memory) (opening memory [])
tied_at_first tiles memory = record { grants = refl; room = refl; homes = no_homes 64 }

pub valid_obeys : (s : SetupValue) → IsValid s → LinesAreOk (opening s.memory []) s.lines
valid_obeys s v = all_obey (no_lines s.tiles s.memory) (opening s.memory []) s.lines (tied_at_first s.tiles s.memory) v.lines

pub valid_ties : (s : SetupValue) → IsValid s → Ties (facts_of s) (opening s.memory s.lines)
valid_ties s v = all_tied (no_lines s.tiles s.memory) (opening s.memory []) s.lines (tied_at_first s.tiles s.memory) v.lines
