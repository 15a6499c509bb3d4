-- Audit lines, one after the other.
use Rattle.std.proofs.Common.{◌≡◌, ℕ, zero, suc, ◌+◌, ◌<◌, ◌≤◌, ◌∙◌, ◌↔◌, Bool, true, false, List, [], ◌∷◌, ◌++◌, get_or, drop, length, slice_get, Option, Some, None, refl, sym, ap, arith}
use Rattle.std.specs.Prelude.{IsTrue, is_some, not}
use Rattle.std.proofs.Math.ListN.{drop_of_length-le}
use Rattle.m3_base.specs.declared.journal.AuditLine.{AuditLine}
use Rattle.m3_base.specs.declared.packet.Fresh.{Fresh}
use Rattle.m3_base.specs.Ideal.State.{State, Grant, is_live}
use Rattle.m3_base.specs.Journal.Legal.{Audits, credit_line, credit_line_if, credit_lines_from, credit_lines, only_credits, only_flights}
use Rattle.m3_ideal.specs.declared.audits.credits.Credits.{Credits}
use Rattle.m3_ideal.specs.Check.AuditCounts.{AreCredits}
use Rattle.m3_ideal.specs.Check.AuditLines.{counted_line, counted_line_if, counted_lines, grant_line, IsFirstCredit, BeginsWith}
use Rattle.m3_ideal.proofs.AuditCounts.{next_of}

-- ---- the counts are those of the state

module _ (s : State) (t : Credits) (are : AreCredits s t) where
  line_same : (g : ℕ) (x : Fresh) → g < 4097 → counted_line t g x ≡ credit_line s g x
  line_same g (Fresh.Send n to to_ep to_grant label size limit) low = λ i. AuditLine.Credit g (are.held g low i) (are.flying g low i) (are.queued g low i) limit ∷ []
  line_same g (Fresh.Receive n slots size) low = refl
  line_same g (Fresh.Memory n start len perm) low = refl

  live_same : (b : Bool) (g : ℕ) (x : Fresh) → g < 4097 → counted_line_if b t g x ≡ credit_line_if b s g x
  live_same true g x low = line_same g x low
  live_same false g x low = refl

  pub lines_same : (g : ℕ) (xs : List Grant) → g + length xs ≤ 4097 → counted_lines t g xs ≡ credit_lines_from s g xs
  lines_same g [] low = refl
  lines_same g (x ∷ xs) low = λ i. live_same (is_live x.standing) g x.fresh (omega arith) i ++ lines_same (g + 1) xs (omega arith) i

-- ---- the lines of one grant after the other

abbrev tail_of : {X : Type 0} → List X → List X
tail_of [] = []
tail_of (x ∷ xs) = xs

cancel : {X : Type 0} (line xs ys : List X) → line ++ xs ≡ line ++ ys → xs ≡ ys
cancel [] xs ys e = e
cancel (x ∷ line) xs ys e = cancel line xs ys (ap tail_of e)

-- the lines from here on are those of these grants exactly where all are those of all
abbrev pub Same : List AuditLine → List AuditLine → List AuditLine → List AuditLine → Type 0
Same all want rest left = (only_credits all ≡ want) ↔ (only_credits rest ≡ left)

pub lines_next : (t : Credits) (gs : List Grant) (i : ℕ) (x : Grant) → i < length gs → x ≡ get_or gs i x → counted_lines t (i + 1) (drop i gs) ≡ grant_line t (i + 1) x ++ counted_lines t (i + 1 + 1) (drop (i + 1) gs)
lines_next t gs i x within is = ap (counted_lines t (i + 1)) (next_of gs i x within is)

pub same_next : (all want rest more left line next : List AuditLine) → left ≡ line ++ next → Same all want rest left → BeginsWith line rest (Some more) → Same all want more next
same_next all want rest more left line next e k b = (
  (λ h. cancel line (only_credits more) next (sym b ∙ k.0 h ∙ e)),
  (λ h. k.1 (b ∙ ap (λ l. line ++ l) h ∙ sym e)),
)

pub same_never : (all want rest left line next : List AuditLine) → left ≡ line ++ next → Same all want rest left → BeginsWith line rest None → only_credits all ≡ want → ⊥
same_never all want rest left line next e k b h = b next (k.0 h ∙ e)

-- ---- lines on flights

-- the line, once it was found
abbrev pub so_far : Bool → ℕ → List AuditLine
so_far true n = AuditLine.Flights n ∷ []
so_far false n = []

-- ---- the first line on credits

abbrev from_some : {X : Type 0} → X → Option X → X
from_some d None = d
from_some d (Some x) = x

got : {X : Type 0} (xs : List X) (i : ℕ) (x l : X) → i < length xs → x ≡ get_or xs i x → slice_get xs i ≡ Some l → x ≡ l
got [] i x l within is e = absurd (omega arith)
got (y ∷ xs) zero x l within is e = is ∙ ap (from_some y) e
got (y ∷ xs) (suc i) x l within is e = got xs i x l (omega arith) is e

there : {X : Type 0} (xs : List X) (i : ℕ) (d : X) → i < length xs → slice_get xs i ≡ Some (get_or xs i d)
there [] i d within = absurd (omega arith)
there (y ∷ xs) zero d within = refl
there (y ∷ xs) (suc i) d within = there xs i d (omega arith)

credit_first : (x : AuditLine) (rest : List AuditLine) (g h f q n : ℕ) → x ≡ AuditLine.Credit g h f q n → only_credits (x ∷ rest) ≡ x ∷ only_credits rest
credit_first x rest g h f q n is = ap (λ y. only_credits (y ∷ rest)) is ∙ ap (λ y. y ∷ only_credits rest) (sym is)

pub credit_found : (ls : List AuditLine) (i : ℕ) (x : AuditLine) (g h f q n : ℕ) → i < length ls → x ≡ get_or ls i x → x ≡ AuditLine.Credit g h f q n → only_credits ls ≡ only_credits (drop i ls)
    → (l : AuditLine) → slice_get ls i ≡ Some l → only_credits ls ≡ l ∷ only_credits (drop (i + 1) ls)
credit_found ls i x g h f q n within is credit k l e =
    k ∙ ap only_credits (next_of ls i x within is) ∙ credit_first x (drop (i + 1) ls) g h f q n credit ∙ ap (λ y. y ∷ only_credits (drop (i + 1) ls)) (got ls i x l within is e)

-- ---- the end of all lines

pub lines_past : (t : Credits) (gs : List Grant) (i : ℕ) → length gs ≤ i → counted_lines t (i + 1) (drop i gs) ≡ []
lines_past t gs i past = ap (counted_lines t (i + 1)) (drop_of_length-le gs past)

pub same_end : (all want rest left : List AuditLine) (o : Option ℕ) (b : Bool) → left ≡ [] → Same all want rest left → IsFirstCredit rest o → is_some o ≡ not b → IsTrue b ↔ (only_credits all ≡ want)
same_end all want rest left None true e k f n = ((λ h. k.1 (f ∙ sym e)), (λ h. refl))
same_end all want rest left None false e k f n = absurd cc
same_end all want rest left (Some i) true e k f n = absurd cc
same_end all want rest left (Some i) false e k f n = ((λ h. absurd cc), (λ h. no_line (sym (f.1 (get_or rest i (AuditLine.Quiet false)) (there rest i (AuditLine.Quiet false) f.0)) ∙ k.0 h ∙ e)))
  where
    no_line : {x : AuditLine} {xs : List AuditLine} → x ∷ xs ≡ [] → IsTrue false
    no_line h = absurd cc

-- ---- both kinds of lines

credits_same : (s : State) (t : Credits) (gs : List Grant) → AreCredits s t → gs ≡ s.grants → length s.grants ≤ 4096 → counted_lines t 1 gs ≡ credit_lines s
credits_same s t gs are e few = ap (counted_lines t 1) e ∙ lines_same s t are 1 s.grants (omega arith)

pub audits_not : (s : State) (lines : List AuditLine) (t : Credits) (gs : List Grant) → AreCredits s t → gs ≡ s.grants → length s.grants ≤ 4096
    → (b : Bool) → (IsTrue b ↔ (only_credits lines ≡ counted_lines t 1 gs)) → b ≡ false → IsTrue false ↔ Audits s lines
audits_not s lines t gs are e few b k isnt = (
  (λ h. absurd cc),
  (λ a. sym isnt ∙ k.1 (a.credits ∙ sym (credits_same s t gs are e few))),
)

pub audits_if : (s : State) (lines : List AuditLine) (t : Credits) (gs : List Grant) → AreCredits s t → gs ≡ s.grants → length s.grants ≤ 4096
    → (b d : Bool) → (IsTrue b ↔ (only_credits lines ≡ counted_lines t 1 gs)) → b ≡ true → (IsTrue d ↔ (only_flights lines ≡ AuditLine.Flights t.flights ∷ [])) → IsTrue d ↔ Audits s lines
audits_if s lines t gs are e few b d k is f = (
  (λ h. record { credits = k.0 is ∙ credits_same s t gs are e few; flights = f.0 h ∙ ap (λ n. AuditLine.Flights n ∷ []) are.flights }),
  (λ a. f.1 (a.flights ∙ ap (λ n. AuditLine.Flights n ∷ []) (sym are.flights))),
)
