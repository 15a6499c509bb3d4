-- The counts of a valid setup, line by line.
use Rattle.std.proofs.Common.{◌≡◌, ℕ, zero, suc, ◌+◌, ◌<◌, ◌≤◌, Bool, true, false, List, [], ◌∷◌, ◌++◌, length, length-append, get_or, set, take, Option, Some, None, refl, ap, sym, ◌∙◌, subst, arith}
use Rattle.std.proofs.Math.Seq.{take-suc}
use Rattle.std.specs.Prelude.{not, ◌||◌, if◌then◌else◌, nat_lt, nat_le, is_none, is_some}
use Rattle.std.specs.List.{list_any}
use Rattle.std.proofs.lemmas.Bool.{or_parts}
use Rattle.std.proofs.lemmas.Bool.Decides.{nat_tests}
use Rattle.std.proofs.lemmas.List.{length-set, length-replicate}
use Rattle.std.proofs.lemmas.List.Elements.{All-tail}
use Rattle.m3_base.specs.declared.order.GrantLine.{GrantLine}
use Rattle.m3_base.specs.declared.event.No.{No}
use Rattle.m3_base.specs.declared.packet.Fresh.{Fresh}
use Rattle.m3_base.specs.declared.setup_line.SetupLine.{SetupLine}
use Rattle.m3_base.specs.declared.setup_line.ProgramKind.{ProgramKind}
use Rattle.m3_base.specs.DriverRun.Budget.{act_count}
use Rattle.m3_base.specs.Ideal.State.{Grant, holder, holder_ep, parent_of, parent_in, undone, is_done}
use Rattle.m3_base.specs.Ideal.GrantRules.{form, make_refusal, first_no, fresh_of, is_above_closing, is_outside, is_more, is_crowded, holds_at}
use Rattle.m3_base.specs.Limits.{is_short}
use Rattle.m3_base.specs.Lists.Counting.{how_many}
use Rattle.m3_base.specs.Setup.Rules.{Facts, SetupValue, AllKept, IsValid, no_lines, breaks_rule, facts_with_line, facts_with_lines, grant_added, with_grant, home_at, is_undeclared, is_taken, program_in, InRange}
use Rattle.m3_base.proofs.SetupValidity.{noted_last, grant_allowed}
use Rattle.m3_script.specs.Rules.{AllListed, IsListed}
use Rattle.m3_cmd.specs.BudgetCounts.{AreFew, counts_of, with_line}
use Rattle.m3_cmd.specs.declared.budget.Counts.{Counts}

-- ---- a grant that isn't refused has its record, and there are fewer than 4,096 before it

first_none : (a b c d e f : Bool)
    → first_no ((a, No.NoGrant) ∷ (b, No.Closing) ∷ (c, No.SlotTaken) ∷ (d, No.OutsideParent) ∷ (e, No.MorePermission) ∷ (f, No.TooMany) ∷ []) ≡ None → (a ≡ false) × (f ≡ false)
first_none true b c d e f h = absurd cc
first_none false true c d e f h = absurd cc
first_none false false true d e f h = absurd cc
first_none false false false true e f h = absurd cc
first_none false false false false true f h = absurd cc
first_none false false false false false true h = absurd cc
first_none false false false false false false h = (refl, refl)

allowed : (memory : ℕ) (gs : List Grant) (line : GrantLine) → make_refusal memory gs line ≡ None
    → (is_none (form (length gs + 1) line (undone (parent_in gs (parent_of line)))) ≡ false) × (length gs < 4096)
allowed memory gs line none =
    let above = undone (parent_in gs (parent_of line)) in
    let h = first_none (is_none (form (length gs + 1) line above)) (is_above_closing above) (list_any (holds_at (holder line) (holder_ep line)) gs)
    (is_outside memory line (fresh_of above)) (is_more line (fresh_of above)) (nat_le 4096 (length gs) || is_crowded line gs) none in
    let few = (or_parts (nat_le 4096 (length gs)) (is_crowded line gs) h.1).0 in
    (h.0, grind (arith, nat_tests, few))

unless_done : (g : ℕ) (line : GrantLine) (x : Grant) (b : Bool) → is_none (form g line None) ≡ true → is_none (form g line (if b then None else Some x)) ≡ false → is_none (form g line (Some x)) ≡ false
unless_done g line x true unparented h = let e = sym unparented ∙ h in absurd cc
unless_done g line x false unparented h = h

form_some : (g : ℕ) (line : GrantLine) (above : Option Grant) → is_none (form g line (undone above)) ≡ false → is_none (form g line above) ≡ false
form_some g (GrantLine.Recv act ep slots size) above h = refl
form_some g (GrantLine.Range act ep at len perm) above h = refl
form_some g (GrantLine.Send act ep of label credits) None h = h
form_some g (GrantLine.Send act ep of label credits) (Some x) h = unless_done g (GrantLine.Send act ep of label credits) x (is_done x.standing) refl h
form_some g (GrantLine.Part act ep of at len perm) None h = h
form_some g (GrantLine.Part act ep of at len perm) (Some x) h = unless_done g (GrantLine.Part act ep of at len perm) x (is_done x.standing) refl h

length_added : (line : GrantLine) (gs : List Grant) (f : Option Fresh) → is_none f ≡ false → length (with_grant line gs f) ≡ length gs + 1
length_added line gs None some = absurd cc
length_added line gs (Some f) some = length-append gs (_ ∷ [])

grants_more : (line : GrantLine) (f : Facts) → breaks_rule (SetupLine.Grant line) f ≡ false → length (grant_added line f.grants) ≡ length f.grants + 1
grants_more line f kept =
    length_added line f.grants _ (form_some (length f.grants + 1) line (parent_in f.grants (parent_of line)) (allowed f.memory f.grants line (grant_allowed f line kept)).0)

-- ---- one line

act_cons : (l : SetupLine) (ls : List SetupLine) → act_count (l ∷ ls) ≡ act_count (l ∷ []) + act_count ls
act_cons (SetupLine.Act a t) ls = omega arith
act_cons (SetupLine.Quantum q) ls = omega arith
act_cons (SetupLine.Grant line) ls = omega arith
act_cons (SetupLine.Files g) ls = omega arith
act_cons (SetupLine.Item a c) ls = omega arith
act_cons (SetupLine.AwaitItem a ep) ls = omega arith
act_cons (SetupLine.Writer a m s r chunk ring bytes) ls = omega arith
act_cons (SetupLine.Reader a m r chunk ring fuel) ls = omega arith
act_cons (SetupLine.Boxed a logic fuel) ls = omega arith

act_push : (ls : List SetupLine) (l : SetupLine) → act_count (ls ++ l ∷ []) ≡ act_count ls + act_count (l ∷ [])
act_push [] l = omega arith
act_push (x ∷ xs) l = omega (arith, act_cons x (xs ++ l ∷ []), act_cons x xs, act_push xs l)

act_same : (ls : List SetupLine) (l : SetupLine) → act_count (l ∷ []) ≡ 0 → act_count (ls ++ l ∷ []) ≡ act_count ls
act_same ls l none = omega (arith, none, act_push ls l)

line_counted : (ls : List SetupLine) (l : SetupLine) (f : Facts) → breaks_rule l (facts_with_lines ls f) ≡ false → IsListed l
    → counts_of (ls ++ l ∷ []) f ≡ with_line l (counts_of ls f)
line_counted ls (SetupLine.Act a t) f kept listed = rw (noted_last ls (SetupLine.Act a t) f, act_push ls (SetupLine.Act a t)) refl
line_counted ls (SetupLine.Quantum q) f kept listed = rw (noted_last ls (SetupLine.Quantum q) f, act_same ls (SetupLine.Quantum q) refl) refl
line_counted ls (SetupLine.Grant line) f kept listed =
    rw (noted_last ls (SetupLine.Grant line) f, act_same ls (SetupLine.Grant line) refl, grants_more line (facts_with_lines ls f) kept) refl
line_counted ls (SetupLine.Files g) f kept listed = rw (noted_last ls (SetupLine.Files g) f, act_same ls (SetupLine.Files g) refl) refl
line_counted ls (SetupLine.Item a c) f kept listed = rw (noted_last ls (SetupLine.Item a c) f, act_same ls (SetupLine.Item a c) refl) refl
line_counted ls (SetupLine.AwaitItem a ep) f kept listed = rw (noted_last ls (SetupLine.AwaitItem a ep) f, act_same ls (SetupLine.AwaitItem a ep) refl) refl
line_counted ls (SetupLine.Writer a m s r chunk ring bytes) f kept listed = absurd listed
line_counted ls (SetupLine.Reader a m r chunk ring fuel) f kept listed = absurd listed
line_counted ls (SetupLine.Boxed a logic fuel) f kept listed = absurd listed

-- ---- each count is at most a setup's most

record Within (f : Facts) (count : ℕ) : Type 0 where
  weight : f.weight ≤ 16384
  grants : length f.grants ≤ 4096
  acts : count ≤ how_many is_some f.homes
  homes : length f.homes ≡ 64

some_more : (homes : List (Option ℕ)) (a t : ℕ) → a < length homes → is_some (home_at homes a) ≡ false → how_many is_some (set homes a (Some t)) ≡ how_many is_some homes + 1
some_more [] a t within none = absurd (omega (arith, within))
some_more (None ∷ hs) zero t within none = omega arith
some_more (Some u ∷ hs) zero t within none = absurd cc
some_more (h ∷ hs) (suc a) t within none = omega (arith, some_more hs a t (omega (arith, within)) none)

few_some : (homes : List (Option ℕ)) → how_many is_some homes ≤ length homes
few_some [] = omega arith
few_some (None ∷ hs) = omega (arith, few_some hs)
few_some (Some t ∷ hs) = omega (arith, few_some hs)

room : (w : ℕ) (a b c d : Bool) → (a || (b || (c || nat_lt 16384 (w + 1)))) ≡ false → w + 1 ≤ 16384
room w a b c d h =
    let last = (or_parts c (nat_lt 16384 (w + 1)) (or_parts b (c || nat_lt 16384 (w + 1)) (or_parts a (b || (c || nat_lt 16384 (w + 1))) h).1).1).1 in
    grind (arith, nat_tests, last)

same_acts : (f : Facts) (acts : ℕ) → acts ≤ how_many is_some f.homes → acts + 0 ≤ how_many is_some f.homes
same_acts f acts h = omega (arith, h)

within_line : (l : SetupLine) (f : Facts) (acts : ℕ) → breaks_rule l f ≡ false → InRange l → IsListed l → Within f acts → Within (facts_with_line l f) (acts + act_count (l ∷ []))
within_line (SetupLine.Act a t) f acts kept range listed w = record {
  weight = w.weight;
  grants = w.grants;
  acts = (let none = (or_parts (is_some (home_at f.homes a)) _ kept).0 in omega (arith, w.acts, some_more f.homes a t (omega (arith, range, w.homes)) none));
  homes = length-set f.homes a (Some t) ∙ w.homes;
}
within_line (SetupLine.Quantum q) f acts kept range listed w = record { weight = w.weight; grants = w.grants; acts = same_acts f acts w.acts; homes = w.homes }
within_line (SetupLine.Files g) f acts kept range listed w = record { weight = w.weight; grants = w.grants; acts = same_acts f acts w.acts; homes = w.homes }
within_line (SetupLine.Grant line) f acts kept range listed w = record {
  weight = w.weight;
  grants = omega (arith, grants_more line f kept, (allowed f.memory f.grants line (grant_allowed f line kept)).1);
  acts = same_acts f acts w.acts;
  homes = w.homes;
}
within_line (SetupLine.Item a c) f acts kept range listed w = record {
  weight = room f.weight (not (is_short c)) (is_undeclared a f) (is_taken (program_in f.programs a) ProgramKind.Listed) false kept;
  grants = w.grants;
  acts = same_acts f acts w.acts;
  homes = w.homes;
}
within_line (SetupLine.AwaitItem a ep) f acts kept range listed w = record {
  weight = room f.weight false (is_undeclared a f) (is_taken (program_in f.programs a) ProgramKind.Listed) false kept;
  grants = w.grants;
  acts = same_acts f acts w.acts;
  homes = w.homes;
}
within_line (SetupLine.Writer a m s r chunk ring bytes) f acts kept range listed w = absurd listed
within_line (SetupLine.Reader a m r chunk ring fuel) f acts kept range listed w = absurd listed
within_line (SetupLine.Boxed a logic fuel) f acts kept range listed w = absurd listed

first_listed : (l : SetupLine) (ls : List SetupLine) → AllListed (l ∷ ls) → IsListed l
first_listed l ls listed = listed 0 l (omega arith)

within_take : (i : ℕ) (ls : List SetupLine) (f : Facts) (acts : ℕ) → AllKept ls f → AllListed ls → Within f acts → Within (facts_with_lines (take i ls) f) (acts + act_count (take i ls))
within_take zero ls f acts kept listed w = subst (Within f) (omega arith) w
within_take (suc i) [] f acts kept listed w = subst (Within f) (omega arith) w
within_take (suc i) (l ∷ ls) f acts kept listed w =
    let one = within_line l f acts kept.0 kept.1.0 (first_listed l ls listed) w in
    let all = within_take i ls (facts_with_line l f) (acts + act_count (l ∷ [])) kept.1.1 (All-tail IsListed l ls listed) one in
    subst (Within (facts_with_lines (take i ls) (facts_with_line l f))) (omega (arith, act_cons l (take i ls))) all

within_none : (tiles memory : ℕ) → Within (no_lines tiles memory) 0
within_none tiles memory = record { weight = omega arith; grants = omega arith; acts = omega arith; homes = length-replicate {A = Option ℕ} 64 None }

few_of : (f : Facts) (acts : ℕ) → Within f acts → AreFew (record { weight = f.weight; acts = acts; grants = length f.grants })
few_of f acts w = record {
  weight = omega (arith, w.weight);
  acts = omega (arith, w.acts, few_some f.homes, w.homes);
  grants = omega (arith, w.grants);
}

pub few_at : (i : ℕ) (s : SetupValue) → IsValid s → AllListed s.lines → AreFew (counts_of (take i s.lines) (no_lines s.tiles s.memory))
few_at i s valid listed =
    let first = no_lines s.tiles s.memory in
    few_of (facts_with_lines (take i s.lines) first) (act_count (take i s.lines)) (
    subst (Within (facts_with_lines (take i s.lines) first)) (omega arith) (within_take i s.lines first 0 valid.lines listed (within_none s.tiles s.memory))
    )

-- ---- along the lines

kept_at : (i : ℕ) (ls : List SetupLine) (f : Facts) (d : SetupLine) → AllKept ls f → i < length ls → breaks_rule (get_or ls i d) (facts_with_lines (take i ls) f) ≡ false
kept_at i [] f d kept within = absurd (omega (arith, within))
kept_at zero (l ∷ ls) f d kept within = kept.0
kept_at (suc i) (l ∷ ls) f d kept within = kept_at i ls (facts_with_line l f) d kept.1.1 (omega (arith, within))

pub counted_next : (i : ℕ) (s : SetupValue) (l : SetupLine) (now next : Counts) → IsValid s → AllListed s.lines → i < length s.lines → l ≡ get_or s.lines i l
    → now ≡ counts_of (take i s.lines) (no_lines s.tiles s.memory) → next ≡ with_line l now → next ≡ counts_of (take (i + 1) s.lines) (no_lines s.tiles s.memory)
counted_next i s l now next valid listed within is counted added =
    let first = no_lines s.tiles s.memory in
    let on : i + 1 ≡ suc i = omega arith in
    let grown : take (i + 1) s.lines ≡ take i s.lines ++ l ∷ [] = ap (λ n. take n s.lines) on ∙ take-suc s.lines i l within ∙ ap (λ x. take i s.lines ++ x ∷ []) (sym is) in
    let kept : breaks_rule l (facts_with_lines (take i s.lines) first) ≡ false = subst (λ x. breaks_rule x (facts_with_lines (take i s.lines) first) ≡ false) (sym is) (kept_at i s.lines first l valid.lines within) in
    let one : IsListed l = subst IsListed (sym is) (listed i l within) in
    added ∙ ap (with_line l) counted ∙ sym (line_counted (take i s.lines) l first kept one) ∙ ap (λ ls. counts_of ls first) (sym grown)
