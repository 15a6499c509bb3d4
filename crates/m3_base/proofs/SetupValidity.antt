-- A setup stays valid as a line is added that isn't refused.
use Rattle.std.proofs.Common.{◌≡◌, Bool, true, false, List, [], ◌∷◌, ◌++◌, Some, None, Ok, Err, refl, sym, ◌∙◌, ap, subst}
use Rattle.std.specs.Prelude.{Option, Result, is_some, ◌||◌}
use Rattle.m3_base.specs.declared.order.GrantLine.{GrantLine}
use Rattle.m3_base.specs.declared.setup_line.SetupLine.{SetupLine}
use Rattle.m3_base.specs.declared.setup.refusal.SetupRefusal.{SetupRefusal}
use Rattle.m3_base.specs.Ideal.GrantRules.{make_refusal}
use Rattle.m3_base.specs.Setup.Rules.{Facts, SetupValue, IsValid, AllKept, InRange, no_lines, facts_with_line, facts_with_lines, facts_of, breaks_rule}

none_where : {X : Type 0} (a b : Bool) (o : Option X) → (a || (b || is_some o)) ≡ false → o ≡ None
none_where a b None e = refl
none_where true b (Some x) e = absurd (cc)
none_where false true (Some x) e = absurd (cc)
none_where false false (Some x) e = absurd (cc)

pub grant_allowed : (f : Facts) (line : GrantLine) → breaks_rule (SetupLine.Grant line) f ≡ false → make_refusal f.memory f.grants line ≡ None
grant_allowed f line e = none_where _ _ (make_refusal f.memory f.grants line) e

pub noted_last : (ls : List SetupLine) (l : SetupLine) (f : Facts) → facts_with_lines (ls ++ l ∷ []) f ≡ facts_with_line l (facts_with_lines ls f)
noted_last [] l f = refl
noted_last (x ∷ ls) l f = noted_last ls l (facts_with_line x f)

pub kept_last : (ls : List SetupLine) (l : SetupLine) (f : Facts) → AllKept ls f → breaks_rule l (facts_with_lines ls f) ≡ false → InRange l → AllKept (ls ++ l ∷ []) f
kept_last [] l f k n r = (n, (r, tt))
kept_last (x ∷ ls) l f k n r = (k.0, (k.1.0, kept_last ls l (facts_with_line x f) k.1.1 n r))

pub valid_added : (s : SetupValue) (l : SetupLine) → IsValid s → breaks_rule l (facts_of s) ≡ false → InRange l → IsValid (record s { lines = s.lines ++ l ∷ [] })
valid_added s l v n r = record { machine = v.machine; lines = kept_last s.lines l (no_lines s.tiles s.memory) v.lines n r }

-- the machine's numbers stay
pub noted_tiles : (l : SetupLine) (f : Facts) → (facts_with_line l f).tiles ≡ f.tiles
noted_tiles (SetupLine.Act a t) f = refl
noted_tiles (SetupLine.Quantum q) f = refl
noted_tiles (SetupLine.Grant line) f = refl
noted_tiles (SetupLine.Files g) f = refl
noted_tiles (SetupLine.Item a c) f = refl
noted_tiles (SetupLine.AwaitItem a ep) f = refl
noted_tiles (SetupLine.Writer a m s r chunk ring bytes) f = refl
noted_tiles (SetupLine.Reader a m r chunk ring fuel) f = refl
noted_tiles (SetupLine.Boxed a logic fuel) f = refl

pub noted_memory : (l : SetupLine) (f : Facts) → (facts_with_line l f).memory ≡ f.memory
noted_memory (SetupLine.Act a t) f = refl
noted_memory (SetupLine.Quantum q) f = refl
noted_memory (SetupLine.Grant line) f = refl
noted_memory (SetupLine.Files g) f = refl
noted_memory (SetupLine.Item a c) f = refl
noted_memory (SetupLine.AwaitItem a ep) f = refl
noted_memory (SetupLine.Writer a m s r chunk ring bytes) f = refl
noted_memory (SetupLine.Reader a m r chunk ring fuel) f = refl
noted_memory (SetupLine.Boxed a logic fuel) f = refl

abbrev pub value : Facts → List SetupLine → SetupValue
value f ls = record { tiles = f.tiles; memory = f.memory; lines = ls }

pub record Kept (f : Facts) (ls : List SetupLine) : Type 0 where
  pub facts : f ≡ facts_of (value f ls)
  pub valid : IsValid (value f ls)

kept_noted : (f : Facts) (ls : List SetupLine) (l : SetupLine) → Kept f ls → breaks_rule l (facts_of (value f ls)) ≡ false → InRange l → Kept (facts_with_line l f) (ls ++ l ∷ [])
kept_noted f ls l k n r =
    let same : value f (ls ++ l ∷ []) ≡ value (facts_with_line l f) (ls ++ l ∷ []) = λ i. record { tiles = sym (noted_tiles l f) i; memory = sym (noted_memory l f) i; lines = ls ++ l ∷ [] } in
    record {
      facts = ap (facts_with_line l) k.facts ∙ (sym (noted_last ls l (no_lines f.tiles f.memory)) ∙ ap facts_of same);
      valid = subst IsValid same (valid_added (value f ls) l k.valid n r);
    }

pub kept_added : (f g : Facts) (ls ms : List SetupLine) (l : SetupLine) → Kept f ls → g ≡ facts_with_line l f → ms ≡ ls ++ l ∷ [] → breaks_rule l (facts_of (value f ls)) ≡ false → InRange l → Kept g ms
kept_added f g ls ms l k e w n r = rw (e, w) (kept_noted f ls l k n r)

-- Rule comes exactly where the line is refused
pub no_rule : {X : Type 0} (b : Bool) (r : Result X SetupRefusal) → b ≡ false → (r ≡ Err SetupRefusal.Rule → ⊥) → (r ≡ Err SetupRefusal.Rule → b ≡ true) × (b ≡ true → r ≡ Err SetupRefusal.Rule)
no_rule b r e n = (λ w. absurd (n w), λ w. absurd (let z : false ≡ true = sym e ∙ w in cc))

pub ok_no_rule : {X : Type 0} (x : X) (r : Result X SetupRefusal) → r ≡ Ok x → r ≡ Err SetupRefusal.Rule → ⊥
ok_no_rule x r w e = cc

pub memory_no_rule : {X : Type 0} (r : Result X SetupRefusal) → r ≡ Err SetupRefusal.NoMemory → r ≡ Err SetupRefusal.Rule → ⊥
memory_no_rule r w e = cc
