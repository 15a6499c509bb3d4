-- Lines as an array of strings.
use Rattle.std.proofs.Common.{◌≡◌, ◌≤◌, ℕ, suc, false, List, [], ◌∷◌, map, length, refl, ap, arith, String, string_bytes, rules, Vec, Result, Ok, Err, IfOk, Some}
use Rattle.std.specs.declared.alloc.Global.{Global}
use Rattle.serde_json.specs.Data.{Data, string, array, depth, items_depth}
use Rattle.serde_json.specs.declared.value.Value.{Value, the_lemmas}
use Rattle.serde_json.specs.declared.value.Value.TheVariants as Variants
use Rattle.serde_json.specs.Read.{read}
use Rattle.serde_json.specs.View.{view, items_of, items_view, members_view}
use Rattle.serde_json.specs.Written.{compact_text, has_float, items_have_float}
use Rattle.m3_journal.specs.JournalText.{strings}
use Rattle.m3_journal_json.specs.Objects.{string_array, object_of, keys_of}

pub view-String : (s : String Global) → view (Variants.String s) ≡ string (string_bytes s)
view-String s = search (rules, the_lemmas)

items_of_strings : (ss : List (String Global)) → items_view (map (λ s. Variants.String s) ss) ≡ items_of (map string (strings ss))
items_of_strings [] = refl
items_of_strings (s ∷ ss) = rw (view-String s, items_of_strings ss) refl

array_of_strings : (ss : List (String Global)) → array (items_view (map (λ s. Variants.String s) ss)) ≡ string_array (strings ss)
array_of_strings ss = ap array (items_of_strings ss)

no_floats : (ls : List (List ℕ)) → items_have_float (items_of (map string ls)) ≡ false
no_floats [] = refl
no_floats (l ∷ ls) = no_floats ls

flat : (ls : List (List ℕ)) → items_depth (items_of (map string ls)) ≡ 0
flat [] = refl
flat (l ∷ ls) = rw (flat ls) refl

object_has_no_float : (setup entries audit : List (List ℕ)) → has_float (object_of setup entries audit) ≡ false
object_has_no_float setup entries audit = rw (no_floats setup, no_floats entries, no_floats audit) refl

object_is_flat : (setup entries audit : List (List ℕ)) → depth (object_of setup entries audit) ≤ 127
object_is_flat setup entries audit = rw (flat setup, flat entries, flat audit) (omega arith)

module _ {E : Type 0} where
  pub array_from_values : (r : Result (Vec Value Global) E) (ss : List (String Global)) → IfOk r (λ v. v.items ≡ map (λ s. Variants.String s) ss) → IfOk r (λ v. array (items_view v.items) ≡ string_array (strings ss))
  array_from_values (Ok v) ss is = rw is (array_of_strings ss)
  array_from_values (Err e) ss is = tt

  pub text_from_writer : (r : Result (String Global) E) (d : Data) (setup entries audit : List (List ℕ)) → d ≡ object_of setup entries audit
      → IfOk r (λ s. has_float d ≡ false → string_bytes s ≡ compact_text d) → IfOk r (λ s. string_bytes s ≡ compact_text (object_of setup entries audit))
  text_from_writer (Ok s) d setup entries audit is text = rw is at (text (rw is (object_has_no_float setup entries audit)))
  text_from_writer (Err e) d setup entries audit is text = tt

  pub again_from_writer : (r : Result (String Global) E) (d : Data) (setup entries audit : List (List ℕ)) → d ≡ object_of setup entries audit
      → IfOk r (λ s. depth d ≤ 127 → read (string_bytes s) ≡ Some d) → IfOk r (λ s. read (string_bytes s) ≡ Some (object_of setup entries audit))
  again_from_writer (Ok s) d setup entries audit is again = rw is at (again (rw is (object_is_flat setup entries audit)))
  again_from_writer (Err e) d setup entries audit is again = tt

pub length_keys : (es : List (String Global × Value)) → length es ≡ length (keys_of (members_view es))
length_keys [] = refl
length_keys (e ∷ es) = ap suc (length_keys es)
