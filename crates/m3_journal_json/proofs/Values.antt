-- Values as the texts of their strings.
use Rattle.std.proofs.Common.{◌≡◌, ℕ, zero, suc, ◌+◌, ◌<◌, ◌≤◌, Bool, true, false, List, [], ◌∷◌, map, length, drop, get_or, Option, Some, None, Result, Ok, Err, refl, sym, ap, ◌∙◌, arith, drop-cons, add-one}
use Rattle.std.specs.List.{list_all}
use Rattle.std.specs.Str.{is_utf8, IsUtf8}
use Rattle.std.proofs.lemmas.Str.{IsUtf8-from_is_utf8, is_utf8-from_IsUtf8}
use Rattle.std.proofs.lemmas.List.{drop_all, length-map}
use Rattle.serde_json.specs.declared.value.Value.{Value}
use Rattle.serde_json.specs.Data.{Data}
use Rattle.serde_json.specs.Read.{read}
use Rattle.serde_json.specs.View.{view, items_view}
use Rattle.m3_base.specs.declared.journal.Audit.{Audit}
use Rattle.m3_base.specs.declared.journal.Journal.{Journal}
use Rattle.m3_script.specs.declared.script.ScriptRefusal.{ScriptRefusal}
use Rattle.m3_journal.specs.Reading.Journals.{journal_from}
use Rattle.m3_journal.specs.Reading.Refusals.{Parses}
use Rattle.m3_journal_json.specs.Objects.{is_text, are_texts, texts_of, text_of, json_of, journal_of_lists}
use Rattle.m3_journal_json.specs.Reads.{value_texts}

pub texts_of_view : (vs : List Value) → texts_of (items_view vs) ≡ value_texts vs
texts_of_view [] = refl
texts_of_view (v ∷ vs) = ap (λ (ts : List (List ℕ)). text_of (view v) ∷ ts) (texts_of_view vs)

pub value_found : (bytes : List ℕ) (d : Data) → IsUtf8 bytes → read bytes ≡ Some d → json_of bytes ≡ Some d
value_found bytes d utf8 is = rw (is_utf8-from_IsUtf8 bytes utf8) is

pub none_found : (bytes : List ℕ) → (IsUtf8 bytes → read bytes ≡ None) → json_of bytes ≡ None
none_found bytes none = go (is_utf8 bytes) refl
  where
    go : (b : Bool) → is_utf8 bytes ≡ b → json_of bytes ≡ None
    go true e = rw e (none (IsUtf8-from_is_utf8 bytes e))
    go false e = rw e refl

pub text_at : (vs : List Value) (i : ℕ) (v : Value) → i < length vs → v ≡ get_or vs i v → get_or (value_texts vs) i [] ≡ text_of (view v)
text_at [] i v lt is = absurd (omega arith)
text_at (w ∷ vs) zero v lt is = rw is refl
text_at (w ∷ vs) (suc i) v lt is = text_at vs i v (omega arith) is

pub length_texts : (vs : List Value) → length (value_texts vs) ≡ length vs
length_texts vs = simp length-map

pub texts_all : (vs : List Value) → are_texts (items_view vs) ≡ list_all (λ v. is_text (view v)) vs
texts_all [] = refl
texts_all (v ∷ vs) = rw (texts_all vs) refl

pub lists_read : (r : Result (Journal × Audit) ScriptRefusal) (s e a : List Value) → are_texts (items_view s) ≡ true → are_texts (items_view e) ≡ true → are_texts (items_view a) ≡ true
    → Parses r (journal_from (value_texts s) (value_texts e) (value_texts a)) → Parses r (journal_of_lists (items_view s, items_view e, items_view a))
lists_read r s e a p q t given = rw (p, q, t, texts_of_view s, texts_of_view e, texts_of_view a) given
