-- Entries that are printed are cut where they were joined, and are read back.
use Rattle.std.proofs.Common.{◌≡◌, ℕ, zero, suc, ◌+◌, ◌-◌, ◌<◌, ◌≤◌, Bool, true, false, not, ◌&&◌, eqb, ltb, List, [], ◌∷◌, ◌++◌, length, get_or, take, Option, Some, None, Ok, Err, refl, sym, ap, ◌∙◌, subst, arith, inl, inr, codes, append_assoc, append-nil, length-append}
use Rattle.std.specs.List.{list_all}
use Rattle.std.specs.Str.{bytes_eq}
use Rattle.std.proofs.Math.Seq.{take-append_seam, drop-append-add, get_or-append_seam, get_or-append_right}
use Rattle.std.proofs.lemmas.Bool.{cases_eq, and_parts as split}
use Rattle.std.proofs.lemmas.List.Folds.{list_all-append}
use Rattle.m3_base.specs.declared.command.Command.{Command}
use Rattle.m3_base.specs.declared.command.Command.TheVariants as command
use Rattle.m3_base.specs.declared.event.Entry.{Entry}
use Rattle.m3_base.specs.declared.event.Event.{Event}
use Rattle.m3_base.specs.declared.event.Event.TheVariants as event
use Rattle.m3_base.specs.declared.event.Made.{Made}
use Rattle.m3_base.specs.declared.event.Made.TheVariants as made
use Rattle.m3_base.specs.declared.event.Said.{Said}
use Rattle.m3_base.specs.declared.event.Said.TheVariants as said
use Rattle.m3_base.specs.declared.order.FileLine.TheVariants as file
use Rattle.m3_base.specs.declared.order.Order.{Order}
use Rattle.m3_base.specs.declared.order.Order.TheVariants as order
use Rattle.m3_base.specs.FileName.{is_visible}
use Rattle.m3_text.specs.declared.hexes.HexCase.TheVariants as case
use Rattle.m3_text.specs.declared.refusal.Why.TheVariants as why
use Rattle.m3_text.specs.Lines.{is_word}
use Rattle.m3_text.specs.Printing.{words_text, line_text}
use Rattle.m3_text.specs.Refusable.{◌>>=◌}
use Rattle.m3_text.specs.LineForm.{word}
use Rattle.m3_script.specs.Events.{event_of, order_of, entry_event_of}
use Rattle.m3_journal.specs.Commands.{optional}
use Rattle.m3_journal.specs.Events.{event_words}
use Rattle.m3_journal.specs.Outcomes.{said_words, outcome_words}
use Rattle.m3_journal.specs.Spelled.{IsPaired, EntryInRange}
use Rattle.m3_journal.specs.Reading.Entries.{is_event_end, is_paired, sides_of, paired_of, entry_at, entry_before, entry_of}
use Rattle.m3_journal.specs.JournalText.{entry_line}
use Rattle.m3_journal.proofs.Spacing.{spaced_more}
use Rattle.m3_journal.proofs.ClearWords.{is_clear, clear_words, clear_at, clear_is_no_end}
use Rattle.m3_journal.proofs.FormsAgain.{event_again}
use Rattle.m3_journal.proofs.OutcomesAgain.{outcome_again, outcome_clear}
use Rattle.m3_journal.proofs.VisibleWords.{event_shown}
use Rattle.m3_base.specs.Journal.Entry.{is_idle}

-- ---- the last word of an event

-- words up to the last, and the last
pub record Ends (ws : List (List ℕ)) : Type 0 where
  pub start : List (List ℕ)
  pub end : List ℕ
  pub same : ws ≡ start ++ end ∷ []

ends : (w : List ℕ) (ws : List (List ℕ)) → Ends (w ∷ ws)
ends w [] = record { start = []; end = w; same = refl }
ends w (v ∷ ws) = let e = ends v ws in record { start = w ∷ e.start; end = e.end; same = ap (λ (vs : List (List ℕ)). w ∷ vs) e.same }

-- the words of an entry, with the colon behind the last of its event
abbrev pub joined : List (List ℕ) → List ℕ → List (List ℕ) → List (List ℕ)
joined fs w os = fs ++ (w ++ 58 ∷ []) ∷ os

pub joined_line : (fs : List (List ℕ)) (w : List ℕ) (os : List (List ℕ)) → (line_text (fs ++ w ∷ []) ++ 58 ∷ []) ++ words_text os ≡ line_text (joined fs w os)
joined_line [] w os = rw (append-nil w) refl
joined_line (f ∷ fs) w os =
    rw (spaced_more fs (w ∷ []), spaced_more fs ((w ++ 58 ∷ []) ∷ os), append-nil w) (simp append_assoc)

word_colon : (w : List ℕ) → is_word w ≡ true → is_word (w ++ 58 ∷ []) ≡ true
word_colon [] is = absurd cc
word_colon (c ∷ w) is =
    let s = split (ltb 0 (length (c ∷ w))) (list_all is_visible (c ∷ w)) is in
    let t = split (is_visible c) (list_all is_visible w) s.1 in
    let some : ltb 0 (length ((c ∷ w) ++ 58 ∷ [])) ≡ true = grind arith in
    rw (some, list_all-append is_visible w (58 ∷ []), t.0, t.1) refl

pub joined_words : (fs : List (List ℕ)) (w : List ℕ) (os : List (List ℕ)) → list_all is_word (fs ++ w ∷ []) ≡ true → list_all is_clear os ≡ true → list_all is_word (joined fs w os) ≡ true
joined_words fs w os front back =
    let both_parts : (list_all is_word fs && list_all is_word (w ∷ [])) ≡ true = rw (list_all-append is_word fs (w ∷ [])) at front in
    let s = split (list_all is_word fs) (list_all is_word (w ∷ [])) both_parts in
    let t = split (is_word w) true s.1 in
    rw (list_all-append is_word fs ((w ++ 58 ∷ []) ∷ os), s.0, word_colon w t.0, clear_words os back) refl

-- ---- where it is cut

long : (w : List ℕ) → length (w ++ 58 ∷ []) - 1 ≡ length w
long w = simp length-append (omega arith)

colon_ends : (w : List ℕ) → is_word w ≡ true → is_event_end (w ++ 58 ∷ []) ≡ true
colon_ends [] is = absurd cc
colon_ends (c ∷ w) is =
    let some : ltb 1 (length ((c ∷ w) ++ 58 ∷ [])) ≡ true = (let l = length-append (c ∷ w) (58 ∷ []) in grind arith) in
    rw (some, long (c ∷ w), get_or-append_seam (c ∷ w) 58 [] 0) refl

without_colon : (w : List ℕ) → take (length (w ++ 58 ∷ []) - 1) (w ++ 58 ∷ []) ≡ w
without_colon w = rw (long w) (take-append_seam w (58 ∷ []))

later : (fs : List (List ℕ)) (v : List ℕ) (os : List (List ℕ)) (i : ℕ) → list_all is_clear os ≡ true → length fs < i → i < length (fs ++ v ∷ os)
    → is_event_end (get_or (fs ++ v ∷ os) i []) ≡ false
later fs v os i clear after inside =
    let parts : (fs ++ v ∷ []) ++ os ≡ fs ++ v ∷ os = append_assoc fs (v ∷ []) os in
    let len = length-append fs (v ∷ []) in
    let total = length-append fs (v ∷ os) in
    let found_at : get_or (fs ++ v ∷ os) i [] ≡ get_or os (i - length (fs ++ v ∷ [])) [] = rw parts at (get_or-append_right (fs ++ v ∷ []) os i [] (omega arith)) in
    rw found_at (clear_is_no_end (get_or os (i - length (fs ++ v ∷ [])) []) (clear_at os (i - length (fs ++ v ∷ [])) clear (omega arith)))

-- places whose word ends no event are passed
passed : (ws : List (List ℕ)) (k n : ℕ) → k < n → ((i : ℕ) → k < i → i < n → is_event_end (get_or ws i []) ≡ false) → entry_before n ws ≡ entry_before (suc k) ws
unfolding entry_before entry_at
passed ws k zero lt h = absurd (omega arith)
passed ws k (suc m) lt h = elim (cases_eq m k) [
  | inl same ↦ rw same refl
  | inr other ↦ rw (h m (omega arith) (omega arith)) (passed ws k m (omega arith) (λ i a b. h i a (omega arith)))
]

here : (fs : List (List ℕ)) (w : List ℕ) (os : List (List ℕ)) (e : Entry) → is_word w ≡ true → paired_of (fs ++ w ∷ []) os ≡ Ok e → entry_at (length fs) (joined fs w os) ≡ Ok e
unfolding entry_at
here fs w os e is reads =
    rw (get_or-append_seam fs (w ++ 58 ∷ []) os [], colon_ends w is, take-append_seam fs ((w ++ 58 ∷ []) ∷ os), without_colon w, drop-append-add fs ((w ++ 58 ∷ []) ∷ os) 1) reads

found : (fs : List (List ℕ)) (w : List ℕ) (os : List (List ℕ)) (e : Entry) → entry_at (length fs) (joined fs w os) ≡ Ok e → entry_before (suc (length fs)) (joined fs w os) ≡ Ok e
unfolding entry_before
found fs w os e is = rw is refl

pub cut_again : (fs : List (List ℕ)) (w : List ℕ) (os : List (List ℕ)) (e : Entry) → is_word w ≡ true → list_all is_clear os ≡ true → paired_of (fs ++ w ∷ []) os ≡ Ok e → entry_of (joined fs w os) ≡ Ok e
cut_again fs w os e is clear reads =
    let total = length-append fs ((w ++ 58 ∷ []) ∷ os) in
    passed (joined fs w os) (length fs) (length (joined fs w os)) (omega arith) (λ i a b. later fs (w ++ 58 ∷ []) os i clear a b)
    ∙ found fs w os e (here fs w os e is reads)

-- words without a colon are no entry
none_before : (ws : List (List ℕ)) (n : ℕ) → n ≤ length ws → list_all is_clear ws ≡ true → entry_before n ws ≡ Err why.Form
unfolding entry_before entry_at
none_before ws zero le clear = refl
none_before ws (suc n) le clear =
    rw (clear_is_no_end (get_or ws n []) (clear_at ws n clear (omega arith))) (none_before ws n (omega arith) clear)

pub no_entry_in : (ws : List (List ℕ)) → list_all is_clear ws ≡ true → entry_of ws ≡ Err why.Form
no_entry_in ws clear = none_before ws (length ws) (omega arith) clear

-- ---- a turn has its move where it isn't idle

first_word : (s : Said) (a : Option ℕ) → bytes_eq (word 0 (said_words s ++ optional (codes "restore") a)) (codes "idle") ≡ is_idle s
first_word said.Nothing a = refl
first_word said.Awake a = refl
first_word said.Yield a = refl
first_word said.Asleep a = refl
first_word said.Ended a = refl
first_word said.Created a = refl
first_word said.Extended a = refl
first_word said.Removed a = refl
first_word said.Revoke a = refl
first_word (said.Flying id) a = refl
first_word (said.Landed id) a = refl
first_word (said.Bounced id) a = refl
first_word (said.Routed id) a = refl
first_word (said.Saving act) a = refl
first_word (said.Saved act) a = refl
first_word (said.Current act) a = refl
first_word (said.Yielded act) a = refl
first_word (said.Save act) a = refl
first_word (said.Credited id g) a = refl
first_word (said.Discarded id g) a = refl
first_word (said.Installed id g) a = refl
first_word (said.Closing id g) a = refl
first_word (said.Closed id g) a = refl
first_word (said.Message token from label payload) a = refl
first_word (said.ReplyMessage token from label payload) a = refl
first_word (said.Acknowledged None) a = refl
first_word (said.Acknowledged (Some id)) a = refl
first_word (said.Refused why) a = refl
first_word (said.Idle why) a = refl
first_word (said.LandRefused id why) a = refl
first_word (said.Held id act) a = refl
first_word (said.Done g revoked) a = refl
first_word (said.No why) a = refl
first_word (said.Granted g id held) a = refl
first_word (said.CloseSent g id held) a = refl
first_word (said.Revoking g) a = refl
first_word (said.Part of at len) a = refl
first_word (said.Answered id x closed) a = refl

moved : (act : ℕ) (m : Made) → eqb (length (event_words (event.Turn act) (Some m))) 2 ≡ false
moved act (made.Command (command.Send ep payload None)) = refl
moved act (made.Command (command.Send ep payload (Some reply))) = refl
moved act (made.Command (command.Reply ep token payload)) = refl
moved act (made.Command (command.Fetch ep)) = refl
moved act (made.Command (command.Acknowledge ep token)) = refl
moved act (made.Command (command.Read ep off len)) = refl
moved act (made.Command (command.Write ep off payload)) = refl
moved act (made.Await ep) = refl
moved act made.Quantum = refl
moved act made.End = refl

is_not : (b : Bool) → true ≡ not b → b ≡ false
is_not true e = absurd cc
is_not false e = refl

is_so : (b : Bool) → false ≡ not b → b ≡ true
is_so true e = refl
is_so false e = absurd cc

pub paired : (e : Event) (m : Option Made) (s : Said) (a : Option ℕ) → IsPaired e m s → is_paired (event_words e m) (said_words s ++ optional (codes "restore") a) ≡ true
paired (event.Do act c) m s a p = refl
paired (event.Turn act) None s a p = rw (first_word s a, is_so (is_idle s) p) refl
paired (event.Turn act) (Some m) s a p = rw (moved act m, first_word s a, is_not (is_idle s) p) refl
paired (event.Take to from) m s a p = refl
paired (event.Tend act) m s a p = refl
paired event.Close m s a p = refl
paired (event.Order (order.Switch tile act)) m s a p = refl
paired (event.Order (order.Grant line)) m s a p = refl
paired (event.Order (order.Revoke g)) m s a p = refl
paired (event.File (file.Create name)) m s a p = refl
paired (event.File (file.Extend name bytes)) m s a p = refl
paired (event.File (file.Remove name)) m s a p = refl
paired (event.File (file.Open name off act ep perm)) m s a p = refl
paired (event.File (file.Close g)) m s a p = refl

pub sides_again : (e : Entry) → EntryInRange e → paired_of (event_words e.event e.outcome.made) (outcome_words e.outcome) ≡ Ok e
unfolding paired_of sides_of
sides_again e r =
    rw (
      paired e.event e.outcome.made e.outcome.said e.outcome.restore r.paired,
      event_again e.event e.outcome.made e.outcome.said r.event r.made r.paired,
      outcome_again e.outcome.said e.outcome.restore r.said r.restore,
    ) refl

-- ---- whole entries

-- an entry's words as those of its two sides
pub record Cut (e : Entry) : Type 0 where
  pub words : List (List ℕ)
  pub line : entry_line e ≡ line_text words
  pub visible : list_all is_word words ≡ true
  pub reads : entry_of words ≡ Ok e
  pub few : length words ≤ length (event_words e.event e.outcome.made) + length (outcome_words e.outcome)

no_event : (e : Event) (m : Option Made) → entry_event_of case.Lower [] ≡ Ok (e, m) → ⊥
unfolding entry_event_of event_of order_of
no_event e m is = absurd cc

cut_at : (e : Entry) → EntryInRange e → Ends (event_words e.event e.outcome.made) → Cut e
cut_at e r ends =
    let es = event_words e.event e.outcome.made in
    let os = outcome_words e.outcome in
    let clear = outcome_clear e.outcome.said e.outcome.restore r.said r.restore in
    let shown : list_all is_word (ends.start ++ ends.end ∷ []) ≡ true = rw ends.same at (event_shown e.event e.outcome.made r.event r.made) in
    let reads : paired_of (ends.start ++ ends.end ∷ []) os ≡ Ok e = rw ends.same at (sides_again e r) in
    let parts : (list_all is_word ends.start && list_all is_word (ends.end ∷ [])) ≡ true = rw (list_all-append is_word ends.start (ends.end ∷ [])) at shown in
    let last = split (is_word ends.end) true (split (list_all is_word ends.start) (list_all is_word (ends.end ∷ [])) parts).1 in
    let count = ap length ends.same in
    let front_length = length-append ends.start (ends.end ∷ []) in
    let total = length-append ends.start ((ends.end ++ 58 ∷ []) ∷ os) in
    record {
      words = joined ends.start ends.end os;
      line = ap (λ (ws : List (List ℕ)). (line_text ws ++ 58 ∷ []) ++ words_text os) ends.same ∙ joined_line ends.start ends.end os;
      visible = joined_words ends.start ends.end os shown clear.0;
      reads = cut_again ends.start ends.end os e last.0 clear.0 reads;
      few = omega arith;
    }

pub entry_cut : (e : Entry) → EntryInRange e → Cut e
entry_cut e r = go (event_words e.event e.outcome.made) refl
  where
    go : (ws : List (List ℕ)) → event_words e.event e.outcome.made ≡ ws → Cut e
    go [] is =
        let again : entry_event_of case.Lower [] ≡ Ok (e.event, e.outcome.made) = rw is at (event_again e.event e.outcome.made e.outcome.said r.event r.made r.paired) in
        absurd (no_event e.event e.outcome.made again)
    go (w ∷ ws) is = cut_at e r (subst Ends (sym is) (ends w ws))
