-- The homes of a setup: each activity has one, and a context at opening.
use Rattle.std.proofs.Common.{◌≡◌, ℕ, ◌+◌, ◌<◌, true, false, List, [], ◌∷◌, ◌++◌, get_or, set, drop, map, replicate, length, Option, Some, None, refl, sym, ap, ◌∙◌, subst, arith}
use Rattle.std.specs.Prelude.{◌==◌, is_some}
use Rattle.std.proofs.lemmas.Bool.Decides.{nat_tests}
use Rattle.std.specs.List.{list_any}
use Rattle.std.proofs.lemmas.List.{length-replicate, get_or-map, get_or-set_other, drop_more, length-map}
use Rattle.m3_base.specs.declared.setup_line.SetupLine.{SetupLine}
use Rattle.m3_base.specs.Lists.EachElement.{Each}
use Rattle.m3_base.specs.Ideal.Context.{Context}
use Rattle.m3_base.specs.Ideal.State.{context_of}
use Rattle.m3_base.specs.Ideal.Opening.{opening}
use Rattle.m3_base.specs.Setup.Rules.{Facts, SetupValue, IsValid, AllKept, InRange, breaks_rule, no_lines, facts_with_line, facts_with_lines, facts_of, home_at, programmed_acts}
use Rattle.m3_base.proofs.SetupObligations.{valid_ties}
use Rattle.m3_model.specs.Config.Site.{Home, Site}
use Rattle.m3_model.specs.Config.FromSetup.{with_home, with_homes}
use Rattle.m3_model.specs.Invariant.Distinct.{DistinctHomes}
use Rattle.m3_model.specs.Machine.{context_or_new}
use Rattle.m3_kernel.specs.HomeTableView.{value_of, home_tile, AreTiles}
use Rattle.m3_kernel.specs.declared.site.tables.Home.{Home as CodeHome}
use Rattle.m3_model.specs.SetupOpening.{opened_site}
use Rattle.std.proofs.lemmas.Bool.{or_parts}
use Rattle.m3_kernel.proofs.HomeTable.{found, found_other, none_found, table_with, is_none_of, get_or_replicated}

-- ---- one line

record AreHomes (h : Site) (f : Facts) : Type 0 where
  pub tiles : AreTiles h.homes f.homes
  pub apart : DistinctHomes h.homes

unfound_more : (a : ℕ) (xs : List Home) (x : Home) → found a xs ≡ None → (a == x.act) ≡ false → found a (xs ++ x ∷ []) ≡ None
unfound_more a xs x e d = found_other a xs x (λ (w : a ≡ x.act). grind (arith, nat_tests, w, d)) ∙ e

apart_more : (xs : List Home) (x : Home) → DistinctHomes xs → found x.act xs ≡ None → DistinctHomes (xs ++ x ∷ [])
apart_more [] x a e = (refl, tt)
apart_more (y ∷ ys) x a e =
    let other : (y.act == x.act) ≡ false = grind (arith, nat_tests, e) in
    let behind : found x.act ys ≡ None = grind (arith, nat_tests, e) in
    (unfound_more y.act ys x a.0 other, apart_more ys x a.1 behind)

line_homes : (ps : List ℕ) (l : SetupLine) (f : Facts) (h : Site) → breaks_rule l f ≡ false → InRange l → AreHomes h f → AreHomes (with_home ps h l) (facts_with_line l f)
line_homes ps (SetupLine.Act a t) f h keeps within are =
    let none : home_at f.homes a ≡ None = is_none_of (home_at f.homes a) ((or_parts (is_some (home_at f.homes a)) _ keeps).0) in
    let x : Home = record { act = a; tile = t; has_program = list_any (λ b. b == a) ps } in
    let fresh : found a h.homes ≡ None = none_found (found a h.homes) (sym (are.tiles.same a) ∙ none) in
    record {
      tiles = table_with home_tile h.homes f.homes are.tiles x within fresh;
      apart = apart_more h.homes x are.apart fresh;
    }
line_homes ps (SetupLine.Quantum q) f h keeps within are = record { tiles = are.tiles; apart = are.apart }
line_homes ps (SetupLine.Grant line) f h keeps within are = record { tiles = are.tiles; apart = are.apart }
line_homes ps (SetupLine.Files g) f h keeps within are = record { tiles = are.tiles; apart = are.apart }
line_homes ps (SetupLine.Item a c) f h keeps within are = record { tiles = are.tiles; apart = are.apart }
line_homes ps (SetupLine.AwaitItem a e) f h keeps within are = record { tiles = are.tiles; apart = are.apart }
line_homes ps (SetupLine.Writer a m d e c r b) f h keeps within are = record { tiles = are.tiles; apart = are.apart }
line_homes ps (SetupLine.Reader a m d c r fu) f h keeps within are = record { tiles = are.tiles; apart = are.apart }
line_homes ps (SetupLine.Boxed a x fu) f h keeps within are = record { tiles = are.tiles; apart = are.apart }

-- ---- the whole setup

lines_homes : (ps : List ℕ) (ls : List SetupLine) (f : Facts) (h : Site) → AllKept ls f → AreHomes h f → AreHomes (with_homes ps h ls) (facts_with_lines ls f)
lines_homes ps [] f h keeps are = are
lines_homes ps (l ∷ ls) f h keeps are = lines_homes ps ls (facts_with_line l f) (with_home ps h l) keeps.1.1 (line_homes ps l f h keeps.0 keeps.1.0 are)

no_tiles : AreTiles [] (replicate 64 None)
no_tiles = record { count = length-replicate {A = Option ℕ} 64 None; same = λ a. get_or_replicated 64 a None }

all_homes : (s : SetupValue) → IsValid s → AreHomes (opened_site s) (facts_of s)
all_homes s v =
    lines_homes (programmed_acts s.lines) s.lines (no_lines s.tiles s.memory) (record { homes = []; quantum = 8; memory = s.memory }) v.lines (record { tiles = no_tiles; apart = tt })

-- the table of homes that the setup's rules read is that of its site
pub valid_tiles : (s : SetupValue) → IsValid s → AreTiles (opened_site s).homes (facts_of s).homes
valid_tiles s v = (all_homes s v).tiles

pub valid_apart : (s : SetupValue) → IsValid s → DistinctHomes (opened_site s).homes
valid_apart s v = (all_homes s v).apart

-- ---- each home is found

abbrev pub Found : List Home → Home → Type 0
Found all y = found y.act all ≡ Some y

beside : (x : Home) (all ys : List Home) → found x.act ys ≡ None → Each (Found all) ys → Each (Found (x ∷ all)) ys
beside x all [] e k = tt
beside x all (y ∷ ys) e k =
    let z : found y.act all ≡ Some y = k.0 in
    let r : found x.act ys ≡ None = grind (arith, nat_tests, e) in
    ((let f : found y.act (x ∷ all) ≡ Some y = grind (arith, nat_tests, e, z) in f), beside x all ys r k.1)

pub each_found_home : (xs : List Home) → DistinctHomes xs → Each (Found xs) xs
each_found_home [] a = tt
each_found_home (x ∷ xs) a = ((let f : found x.act (x ∷ xs) ≡ Some x = grind (arith, nat_tests) in f), beside x xs xs a.0 (each_found_home xs a.1))

-- ---- contexts

-- its context at opening
abbrev pub context_at_opening : SetupValue → Home → Context
context_at_opening s x = context_or_new x.act (context_of x.act (opening s.memory s.lines).contexts)

-- the table has this at the home's activity
abbrev pub Stands : (Home → Option Context) → List (Option Context) → Home → Type 0
Stands v table x = get_or table x.act None ≡ v x

pub stands_still : (v : Home → Option Context) (table : List (Option Context)) (a : ℕ) (xs : List Home) → found a xs ≡ None → Each (Stands v table) xs → Each (Stands v (set table a None)) xs
stands_still v table a [] e k = tt
stands_still v table a (x ∷ xs) e k =
    let other : x.act ≡ a → ⊥ = (λ (w : x.act ≡ a). grind (arith, nat_tests, w, e)) in
    let r : found a xs ≡ None = grind (arith, nat_tests, e) in
    (get_or-set_other table a x.act None None other ∙ k.0, stands_still v table a xs r k.1)

-- the table has the context of this home
abbrev pub Waits : SetupValue → List (Option Context) → Home → Type 0
Waits s = Stands (λ x. Some (context_at_opening s x))

some_new : (a : ℕ) (o : Option Context) → is_some o ≡ true → o ≡ Some (context_or_new a o)
some_new a None e = absurd (cc)
some_new a (Some c) e = refl

pub each_waits : (s : SetupValue) → IsValid s → (table : List (Option Context)) → ((a : ℕ) → get_or table a None ≡ context_of a (opening s.memory s.lines).contexts) → (xs : List Home) → Each (Found (opened_site s).homes) xs → Each (Waits s table) xs
each_waits s v table same [] k = tt
each_waits s v table same (x ∷ xs) k =
    let home : home_at (facts_of s).homes x.act ≡ Some x.tile = (valid_tiles s v).same x.act ∙ ap home_tile k.0 in
    let there : is_some (context_of x.act (opening s.memory s.lines).contexts) ≡ true = sym ((valid_ties s v).homes x.act) ∙ ap is_some home in
    (same x.act ∙ some_new x.act (context_of x.act (opening s.memory s.lines).contexts) there, each_waits s v table same xs k.1)

-- ---- the next home, as the code reads it

-- the homes from a place on begin with the one that stands there
pub next_home : (P : List Home → Type 0) (homes : List Home) (items : List CodeHome) (i : ℕ) (y : CodeHome) → map value_of items ≡ homes → i < length homes → y ≡ get_or items i y
    → P (drop i homes) → P (value_of y ∷ drop (i + 1) homes)
next_home P homes items i y lists within is p =
    let short : i < length items = subst (λ (n : ℕ). i < n) (ap length (sym lists) ∙ length-map items value_of) within in
    let read : get_or homes i (value_of y) ≡ value_of y = ap (λ l. get_or l i (value_of y)) (sym lists) ∙ get_or-map value_of items i y (value_of y) short ∙ ap value_of (sym is) in
    subst P (drop_more homes i (value_of y) within ∙ ap (λ x. x ∷ drop (i + 1) homes) read) p
