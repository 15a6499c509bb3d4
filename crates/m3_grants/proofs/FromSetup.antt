-- The grants of a setup's lines, one line after the other.
use Rattle.std.proofs.Common.{◌≡◌, ℕ, zero, suc, ◌+◌, ◌<◌, true, List, [], ◌∷◌, length, drop, refl, sym, ◌∙◌, ap, subst, arith, get_or}
use Rattle.std.specs.Prelude.{slice_get}
use Rattle.m3_base.specs.declared.setup_line.SetupLine.{SetupLine}
use Rattle.m3_base.specs.Ideal.State.{parent_in, parent_of}
use Rattle.m3_base.specs.Ideal.GrantRules.{form}
use Rattle.m3_base.specs.Setup.GrantTable.{is_fresh}
use Rattle.m3_base.specs.Setup.Rules.{SetupValue, Facts, facts_of, facts_with_lines, facts_with_line, no_lines}
use Rattle.m3_base.proofs.SetupGrants.{made_added, fresh_added}
use Rattle.m3_base.proofs.SetupValidity.{noted_memory}
use Rattle.m3_grants.specs.GrantTree.{GrantTree, after_line}
use Rattle.m3_grants.proofs.NodeLookup.{tree_of}

-- the rest of the lines, noted after these facts, gives the setup's facts
pub record SoFar (s : SetupValue) (t : GrantTree) (rest : List SetupLine) : Type 0 where
  pub facts : Facts
  pub grants : t ≡ tree_of facts.memory facts.grants
  pub memory : facts.memory ≡ s.memory
  pub whole : facts_with_lines rest facts ≡ facts_of s
  pub live : (i : ℕ) → is_fresh (slice_get facts.grants i) ≡ true

pub so_far_none : (s : SetupValue) (t : GrantTree) (rest : List SetupLine) → t ≡ tree_of s.memory [] → rest ≡ s.lines → SoFar s t rest
so_far_none s t rest e w = rw w (record {
  facts = no_lines s.tiles s.memory;
  grants = e;
  memory = refl;
  whole = refl;
  live = λ i. refl;
})

-- ---- a line more

noted_after : (l : SetupLine) (f : Facts) → ((i : ℕ) → is_fresh (slice_get f.grants i) ≡ true) → after_line l (tree_of f.memory f.grants) ≡ tree_of f.memory (facts_with_line l f).grants
noted_after (SetupLine.Grant line) f h = ap (tree_of f.memory) (made_added f.grants line h)
noted_after (SetupLine.Act a b) f h = refl
noted_after (SetupLine.Quantum q) f h = refl
noted_after (SetupLine.Files g) f h = refl
noted_after (SetupLine.Item a c) f h = refl
noted_after (SetupLine.AwaitItem a ep) f h = refl
noted_after (SetupLine.Writer a m d r chunk ring bytes) f h = refl
noted_after (SetupLine.Reader a m d chunk ring fuel) f h = refl
noted_after (SetupLine.Boxed a logic fuel) f h = refl

noted_live : (l : SetupLine) (f : Facts) → ((i : ℕ) → is_fresh (slice_get f.grants i) ≡ true) → (i : ℕ) → is_fresh (slice_get (facts_with_line l f).grants i) ≡ true
noted_live (SetupLine.Grant line) f h i = fresh_added f.grants line (form (length f.grants + 1) line (parent_in f.grants (parent_of line))) h i
noted_live (SetupLine.Act a b) f h i = h i
noted_live (SetupLine.Quantum q) f h i = h i
noted_live (SetupLine.Files g) f h i = h i
noted_live (SetupLine.Item a c) f h i = h i
noted_live (SetupLine.AwaitItem a ep) f h i = h i
noted_live (SetupLine.Writer a m d r chunk ring bytes) f h i = h i
noted_live (SetupLine.Reader a m d chunk ring fuel) f h i = h i
noted_live (SetupLine.Boxed a logic fuel) f h i = h i

pub so_far_next : (s : SetupValue) (t u : GrantTree) (l : SetupLine) (rest : List SetupLine) → SoFar s t (l ∷ rest) → u ≡ after_line l t → SoFar s u rest
so_far_next s t u l rest k e = record {
  facts = facts_with_line l k.facts;
  grants = e ∙ (ap (after_line l) k.grants ∙ (noted_after l k.facts k.live ∙ ap (λ m. tree_of m (facts_with_line l k.facts).grants) (sym (noted_memory l k.facts))));
  memory = noted_memory l k.facts ∙ k.memory;
  whole = k.whole;
  live = noted_live l k.facts k.live;
}

pub drop_next : (ls : List SetupLine) (i : ℕ) (l : SetupLine) → i < length ls → l ≡ get_or ls i l → drop i ls ≡ l ∷ drop (i + 1) ls
drop_next [] i l h e = absurd (omega (arith, h))
drop_next (x ∷ xs) zero l h e = ap (λ y. y ∷ xs) (sym e)
drop_next (x ∷ xs) (suc i) l h e = let k : suc i + 1 ≡ suc (i + 1) = omega arith in rw k (drop_next xs i l (omega (arith, h)) e)

pub so_far_all : (s : SetupValue) (t : GrantTree) (rest : List SetupLine) → rest ≡ [] → SoFar s t rest → t ≡ tree_of s.memory (facts_of s).grants
so_far_all s t rest e k =
    let w : facts_with_lines [] k.facts ≡ facts_of s = subst (λ r. facts_with_lines r k.facts ≡ facts_of s) e k.whole in
    k.grants ∙ (ap (λ m. tree_of m k.facts.grants) k.memory ∙ ap (λ f. tree_of s.memory f.grants) w)
