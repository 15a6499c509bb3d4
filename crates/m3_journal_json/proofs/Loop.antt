-- Taking one string after the other, as a loop does.
use Rattle.std.proofs.Common.{◌≡◌, ℕ, ◌+◌, ◌<◌, ◌≤◌, List, [], ◌∷◌, length, drop, get_or, Result, Ok, refl, sym, ◌∙◌, arith, drop-cons, add-one}
use Rattle.std.proofs.lemmas.List.{drop_all}
use Rattle.m3_text.specs.declared.refusal.LineRefusal.{LineRefusal}
use Rattle.m3_text.specs.declared.refusal.LineRefusal.TheVariants as refusals
use Rattle.m3_text.specs.Refusable.{Fails}
use Rattle.m3_script.specs.ScriptText.{Refused}
use Rattle.m3_script.specs.ParserView.{refusal, Refuses}
use Rattle.m3_journal.specs.Reading.Journals.{DraftValue, draft_after_all, draft_after_string}

-- the texts from place i on
pub rest_is : (ts : List (List ℕ)) (i : ℕ) → i < length ts → drop i ts ≡ get_or ts i [] ∷ drop (i + 1) ts
rest_is ts i lt = rw (add-one, drop-cons ts i []) refl

pub goes_on : (ts : List (List ℕ)) (i : ℕ) (t : List ℕ) (d e : DraftValue) (n : ℕ) (total : Result (DraftValue × ℕ) Refused) → i < length ts → get_or ts i [] ≡ t → draft_after_string d t ≡ Ok e
    → draft_after_all draft_after_string (drop i ts) d n ≡ total → draft_after_all draft_after_string (drop (i + 1) ts) e (n + 1) ≡ total
unfolding draft_after_all
goes_on ts i t d e n total lt is step so_far =
    let here : draft_after_all draft_after_string (t ∷ drop (i + 1) ts) d n ≡ total = rw (rest_is ts i lt, is) at so_far in
    rw step at here

pub is_refused : (ts : List (List ℕ)) (i : ℕ) (t : List ℕ) (d : DraftValue) (n : ℕ) (error : LineRefusal) (total : Result (DraftValue × ℕ) Refused) → i < length ts → get_or ts i [] ≡ t → Fails error (draft_after_string d t)
    → draft_after_all draft_after_string (drop i ts) d n ≡ total → Refuses (refusal n error) total
unfolding draft_after_all
is_refused ts i t d n refusals.NoMemory total lt is step so_far = tt
is_refused ts i t d n (refusals.Bad why) total lt is step so_far =
    let here : draft_after_all draft_after_string (t ∷ drop (i + 1) ts) d n ≡ total = rw (rest_is ts i lt, is) at so_far in
    sym (rw step at here)

pub none_left : (ts : List (List ℕ)) (i : ℕ) (d : DraftValue) (n : ℕ) (total : Result (DraftValue × ℕ) Refused) → length ts ≤ i → draft_after_all draft_after_string (drop i ts) d n ≡ total → total ≡ Ok (d, n)
unfolding draft_after_all
none_left ts i d n total le so_far = sym (rw (drop_all i ts le) at so_far)
