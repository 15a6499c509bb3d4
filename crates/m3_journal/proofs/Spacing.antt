-- Words behind a space, and the same as a line.
use Rattle.std.proofs.Common.{◌≡◌, ℕ, List, [], ◌∷◌, ◌++◌, refl, ◌∙◌, append_assoc}
use Rattle.std.proofs.lemmas.Grind.{flat_map-append}
use Rattle.std.proofs.lemmas.List.{append-nil}
use Rattle.m3_base.specs.declared.order.GrantLine.{GrantLine}
use Rattle.m3_base.specs.declared.order.GrantLine.TheVariants.{Recv, Send, Range, Part}
use Rattle.m3_text.specs.Printing.{words_text, line_text, text_of_lines}
use Rattle.m3_journal.specs.Orders.{grant_words}

pub spaced_grant : (line : GrantLine) → words_text (grant_words line) ≡ 32 ∷ line_text (grant_words line)
spaced_grant (Recv act ep slots size) = refl
spaced_grant (Send act ep of label credits) = refl
spaced_grant (Range act ep at len perm) = refl
spaced_grant (Part act ep of at len perm) = refl

pub spaced_more : (ws more : List (List ℕ)) → words_text (ws ++ more) ≡ words_text ws ++ words_text more
spaced_more [] more = refl
spaced_more (w ∷ ws) more = rw (spaced_more ws more, append_assoc w (words_text ws) (words_text more)) refl

-- words put behind words that were put
pub behind : (old mid new : List ℕ) (ws more : List (List ℕ)) → mid ≡ old ++ words_text ws → new ≡ mid ++ words_text more → new ≡ old ++ words_text (ws ++ more)
behind old mid new ws more first then = then ∙ rw (first, append_assoc old (words_text ws) (words_text more), spaced_more ws more) refl

line_more : (w : List ℕ) (ws more : List (List ℕ)) → line_text (w ∷ ws ++ more) ≡ line_text (w ∷ ws) ++ words_text more
line_more w ws more = rw (spaced_more ws more, append_assoc w (words_text ws) (words_text more)) refl

-- a line that is put in three pieces
pub line_of_three : (old a b new : List ℕ) (w : List ℕ) (ws xs ys : List (List ℕ))
    → a ≡ old ++ line_text (w ∷ ws) → b ≡ a ++ words_text xs → new ≡ b ++ words_text ys → new ≡ old ++ line_text (w ∷ ws ++ (xs ++ ys))
line_of_three old a b new w ws xs ys first second third =
    behind a b new xs ys second third ∙ rw (first, append_assoc old (line_text (w ∷ ws)) (words_text (xs ++ ys)), line_more w ws (xs ++ ys)) refl

pub text_more : (ls more : List (List ℕ)) → text_of_lines (ls ++ more) ≡ text_of_lines ls ++ text_of_lines more
text_more ls more = flat_map-append (λ (l : List ℕ). l ++ 10 ∷ []) ls more

-- two texts that are put, each with a value right behind it
pub two_fields : (old mid new a x b y : List ℕ) → mid ≡ old ++ (a ++ x) → new ≡ mid ++ (b ++ y) → new ≡ old ++ (a ++ (x ++ (b ++ (y ++ []))))
two_fields old mid new a x b y first second =
    second ∙ rw (first, append-nil y, append_assoc old (a ++ x) (b ++ y), append_assoc a x (b ++ y)) refl
