-- The entry of a line, or what else the line is.
use Rattle.std.proofs.Common.{◌≡◌, ℕ, zero, suc, ◌-◌, ◌<◌, ◌++◌, true, false, List, [], ◌∷◌, Result, Ok, Err, Bor, length, take, refl, arith}
use Rattle.std.proofs.lemmas.List.{length-map, take-map, map-append}
use Rattle.m3_base.specs.declared.event.Entry.{Entry}
use Rattle.m3_text.specs.declared.refusal.Why.{Why}
use Rattle.m3_text.specs.declared.refusal.Why.TheVariants as why
use Rattle.m3_text.specs.declared.refusal.LineRefusal.{LineRefusal}
use Rattle.m3_text.specs.declared.refusal.LineRefusal.TheVariants as refusals
use Rattle.m3_text.specs.Lines.{texts}
use Rattle.m3_text.specs.Refusable.{Gives, Fails, ◌>>=◌}
use Rattle.m3_text.specs.LineForm.{word}
use Rattle.m3_journal.specs.Reading.Entries.{unless_form, event_side, entry_at, entry_before}
use Rattle.m3_journal.specs.Reading.Refusals.{fits_no_form}

-- where the words fit no form of an entry, the other reading counts
pub no_entry : {A : Type 0} (entry : Result Entry LineRefusal) (reading : Result Entry Why) (other : Result A Why) (f : Entry → A)
    → Gives (λ e. e) entry reading → fits_no_form entry ≡ true → unless_form (reading >>= λ e. Ok (f e)) other ≡ other
no_entry (Ok e) reading other f gives is = absurd cc
no_entry (Err refusals.NoMemory) reading other f gives is = absurd cc
no_entry (Err (refusals.Bad why.Form)) reading other f gives is = rw gives refl
no_entry (Err (refusals.Bad why.Number)) reading other f gives is = absurd cc
no_entry (Err (refusals.Bad why.Hex)) reading other f gives is = absurd cc
no_entry (Err (refusals.Bad why.Place)) reading other f gives is = absurd cc
no_entry (Err (refusals.Bad why.Rule)) reading other f gives is = absurd cc

-- and else that of the entry
pub entry_stands : {A : Type 0} (entry : Result Entry LineRefusal) (reading : Result Entry Why) (other : Result A Why) (f : Entry → A)
    → Gives (λ e. e) entry reading → fits_no_form entry ≡ false → Gives f entry (unless_form (reading >>= λ e. Ok (f e)) other)
entry_stands (Ok e) reading other f gives is = rw gives refl
entry_stands (Err refusals.NoMemory) reading other f gives is = tt
entry_stands (Err (refusals.Bad why.Form)) reading other f gives is = absurd cc
entry_stands (Err (refusals.Bad why.Number)) reading other f gives is = rw gives refl
entry_stands (Err (refusals.Bad why.Hex)) reading other f gives is = rw gives refl
entry_stands (Err (refusals.Bad why.Place)) reading other f gives is = rw gives refl
entry_stands (Err (refusals.Bad why.Rule)) reading other f gives is = rw gives refl

-- ---- from the last place to the first

passed : (entry : Result Entry LineRefusal) (reading other : Result Entry Why) → Gives (λ e. e) entry reading → fits_no_form entry ≡ true → unless_form reading other ≡ other
passed (Ok e) reading other gives is = absurd cc
passed (Err refusals.NoMemory) reading other gives is = absurd cc
passed (Err (refusals.Bad why.Form)) reading other gives is = rw gives refl
passed (Err (refusals.Bad why.Number)) reading other gives is = absurd cc
passed (Err (refusals.Bad why.Hex)) reading other gives is = absurd cc
passed (Err (refusals.Bad why.Place)) reading other gives is = absurd cc
passed (Err (refusals.Bad why.Rule)) reading other gives is = absurd cc

stands : (entry : Result Entry LineRefusal) (reading other : Result Entry Why) → Gives (λ e. e) entry reading → fits_no_form entry ≡ false → Gives (λ e. e) entry (unless_form reading other)
stands (Ok e) reading other gives is = rw gives refl
stands (Err refusals.NoMemory) reading other gives is = tt
stands (Err (refusals.Bad why.Form)) reading other gives is = absurd cc
stands (Err (refusals.Bad why.Number)) reading other gives is = rw gives refl
stands (Err (refusals.Bad why.Hex)) reading other gives is = rw gives refl
stands (Err (refusals.Bad why.Place)) reading other gives is = rw gives refl
stands (Err (refusals.Bad why.Rule)) reading other gives is = rw gives refl

pub place_passed : (entry : Result Entry LineRefusal) (n : ℕ) (ws : List (List ℕ)) (all : Result Entry Why) → 0 < n → Gives (λ e. e) entry (entry_at (n - 1) ws) → fits_no_form entry ≡ true
    → entry_before n ws ≡ all → entry_before (n - 1) ws ≡ all
unfolding entry_before
place_passed entry zero ws all some gives is so_far = absurd (omega arith)
place_passed entry (suc n) ws all some gives is so_far =
    let e : suc n - 1 ≡ n = omega arith in
    let g : Gives (λ e. e) entry (entry_at n ws) = rw e at gives in
    rw e (rw (passed entry (entry_at n ws) (entry_before n ws) g is) at so_far)

pub place_stands : (entry : Result Entry LineRefusal) (n : ℕ) (ws : List (List ℕ)) (all : Result Entry Why) → 0 < n → Gives (λ e. e) entry (entry_at (n - 1) ws) → fits_no_form entry ≡ false
    → entry_before n ws ≡ all → Gives (λ e. e) entry all
unfolding entry_before
place_stands entry zero ws all some gives is so_far = absurd (omega arith)
place_stands entry (suc n) ws all some gives is so_far =
    let e : suc n - 1 ≡ n = omega arith in
    let g : Gives (λ e. e) entry (entry_at n ws) = rw e at gives in
    rw so_far at (stands entry (entry_at n ws) (entry_before n ws) g is)

pub none_left : (n : ℕ) (ws : List (List ℕ)) (all : Result Entry Why) → n ≡ 0 → entry_before n ws ≡ all → all ≡ Err why.Form
unfolding entry_before
none_left zero ws all none so_far = cc
none_left (suc n) ws all none so_far = absurd (omega arith)

-- ---- the words of the event

pub side_is : (ws fs gs : List (Bor (List ℕ))) (w : Bor (List ℕ)) (k : ℕ) → fs ≡ take k ws → gs ≡ fs ++ w ∷ []
    → w.now ≡ take (length (word k (texts ws)) - 1) (word k (texts ws)) → texts gs ≡ event_side k (texts ws)
side_is ws fs gs w k front all last = rw (all, front) (simp (map-append, take-map, last))
