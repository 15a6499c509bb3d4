-- The text of a journal's JSON is UTF-8, and reads as its object.
use Rattle.std.proofs.Common.{◌≡◌, ℕ, ◌^◌, ◌<◌, ◌≤◌, Bool, true, false, ◌&&◌, leb, ltb, List, [], ◌∷◌, ◌++◌, map, Option, Some, Result, Ok, refl, sym, ◌∙◌, arith, lit<, codes, append-nil}
use Rattle.std.specs.Prelude.{IsUtf8, decimal}
use Rattle.std.specs.List.{list_all, AllByRecursion}
use Rattle.std.proofs.lemmas.Bool.Decides.{nat_tests}
use Rattle.std.proofs.lemmas.Fmt.{decimal_digit}
use Rattle.std.proofs.lemmas.Str.{IsUtf8-append}
use Rattle.json.specs.Json as json
use Rattle.json.specs.Print.{quoted}
use Rattle.json.specs.Lex.{tokens}
use Rattle.json.specs.Tree as tree
use Rattle.json.proofs.Printed.Decimals.{IsNumber-decimal}
use Rattle.json.proofs.Printed.Tokens.{tokens-print}
use Rattle.json.proofs.Printed.Trees.{value-json_tokens, ArePrintable-json_tokens}
use Rattle.json.proofs.Printed.Utf8.{are_ascii, IsUtf8-are_ascii, IsUtf8-quoted}
use Rattle.serde_json.specs.Data.{Data, string}
use Rattle.serde_json.specs.Read.{read, of_json, of_items}
use Rattle.serde_json.specs.View.{items_of}
use Rattle.serde_json.specs.Written.{outline, items_outline, compact_text, items_text}
use Rattle.serde_json.proofs.Numbers.{number_of-decimal}
use Rattle.serde_json.proofs.Texts.{print-outline}
use Rattle.m3_base.specs.declared.event.Entry.{Entry}
use Rattle.m3_base.specs.declared.journal.AuditLine.{AuditLine}
use Rattle.m3_base.specs.Setup.Rules.{SetupValue}
use Rattle.m3_text.specs.Lines.{is_plain}
use Rattle.m3_journal.specs.Spelled.{IsSpelled, EntryInRange, AuditInRange}
use Rattle.m3_journal.specs.JournalText.{setup_lines, entry_line, audit_line}
use Rattle.m3_journal.proofs.JournalsAgain.{map_plain, setup_lines_plain}
use Rattle.m3_journal.proofs.LinesAgain.{entry_plain, audit_plain}
use Rattle.m3_journal_json.specs.Objects.{object_of, journal_object, json_text, journal_of_json}
use Rattle.m3_journal_json.proofs.Again.{bytes_again}
use Rattle.m3_journal_json.proofs.Values.{value_found}
use Rattle.std.proofs.lemmas.Bool.{and_parts as split}

-- ---- the object is read from its text

items_back : (ls : List (List ℕ)) → of_items (items_outline (items_of (map string ls))) ≡ Some (items_of (map string ls))
items_back [] = refl
items_back (l ∷ ls) = rw (items_back ls) refl

object_back : (setup entries audit : List (List ℕ)) → of_json (outline (object_of setup entries audit)) ≡ Some (object_of setup entries audit)
object_back setup entries audit = rw (items_back audit, items_back entries, number_of-decimal 1 (lit< tt), items_back setup) refl

numbers : (ls : List (List ℕ)) → tree.ItemsHaveNumbers (items_outline (items_of (map string ls)))
numbers [] = tt
numbers (l ∷ ls) = (tt, numbers ls)

flat : (ls : List (List ℕ)) → tree.items_depth (items_outline (items_of (map string ls))) ≡ 0
flat [] = refl
flat (l ∷ ls) = rw (flat ls) refl

shallow : (setup entries audit : List (List ℕ)) → tree.depth (outline (object_of setup entries audit)) ≤ 127
shallow setup entries audit = rw (flat audit, flat entries, flat setup) (omega arith)

read_from : (j : json.Json) (d : Data) (text : List ℕ) → tokens text ≡ tree.json_tokens j → tree.depth j ≤ 127 → of_json j ≡ Some d → read text ≡ Some d
read_from j d text same deep back =
    let value : json.value 127 (tree.json_tokens j) ≡ Some (j, []) = rw (append-nil (tree.json_tokens j)) at (value-json_tokens j 127 [] deep) in
    rw (same, value) back

text_tokens : (d : Data) → tree.HasNumbers (outline d) → tokens (compact_text d) ≡ tree.json_tokens (outline d)
text_tokens d are = rw (print-outline d) at (tokens-print (tree.json_tokens (outline d)) (ArePrintable-json_tokens (outline d) are))

pub text_reads : (setup entries audit : List (List ℕ)) → read (compact_text (object_of setup entries audit)) ≡ Some (object_of setup entries audit)
text_reads setup entries audit =
    read_from (outline (object_of setup entries audit)) (object_of setup entries audit) (compact_text (object_of setup entries audit))
    (text_tokens (object_of setup entries audit) (numbers audit, (numbers entries, (IsNumber-decimal 1 (lit< tt), (numbers setup, tt)))))
    (shallow setup entries audit) (object_back setup entries audit)

-- ---- it is UTF-8

items_utf8 : (later : Bool) (ls : List (List ℕ)) → AllByRecursion IsUtf8 ls → IsUtf8 (items_text later (items_of (map string ls)))
items_utf8 later [] are = IsUtf8-are_ascii (93 ∷ []) refl
items_utf8 true (l ∷ ls) are =
    IsUtf8-append (44 ∷ []) (quoted l ++ items_text true (items_of (map string ls))) (IsUtf8-are_ascii (44 ∷ []) refl)
    (IsUtf8-append (quoted l) (items_text true (items_of (map string ls))) (IsUtf8-quoted l are.0) (items_utf8 true ls are.1))
items_utf8 false (l ∷ ls) are =
    IsUtf8-append (quoted l) (items_text true (items_of (map string ls))) (IsUtf8-quoted l are.0) (items_utf8 true ls are.1)

array_utf8 : (ls : List (List ℕ)) → AllByRecursion IsUtf8 ls → IsUtf8 (91 ∷ items_text false (items_of (map string ls)))
array_utf8 ls are = IsUtf8-append (91 ∷ []) (items_text false (items_of (map string ls))) (IsUtf8-are_ascii (91 ∷ []) refl) (items_utf8 false ls are)

pair_utf8 : (k v rest : List ℕ) → are_ascii k ≡ true → IsUtf8 v → IsUtf8 rest → IsUtf8 (quoted k ++ 58 ∷ (v ++ rest))
pair_utf8 k v rest key value more =
    IsUtf8-append (quoted k) (58 ∷ (v ++ rest)) (IsUtf8-quoted k (IsUtf8-are_ascii k key))
    (IsUtf8-append (58 ∷ []) (v ++ rest) (IsUtf8-are_ascii (58 ∷ []) refl) (IsUtf8-append v rest value more))

later_utf8 : (k v rest : List ℕ) → are_ascii k ≡ true → IsUtf8 v → IsUtf8 rest → IsUtf8 (44 ∷ (quoted k ++ 58 ∷ (v ++ rest)))
later_utf8 k v rest key value more =
    IsUtf8-append (44 ∷ []) (quoted k ++ 58 ∷ (v ++ rest)) (IsUtf8-are_ascii (44 ∷ []) refl) (pair_utf8 k v rest key value more)

one_utf8 : IsUtf8 (decimal 1)
one_utf8 = rw (decimal_digit 1 (lit< tt)) (IsUtf8-are_ascii (49 ∷ []) refl)

object_utf8 : (setup entries audit : List (List ℕ)) → AllByRecursion IsUtf8 setup → AllByRecursion IsUtf8 entries → AllByRecursion IsUtf8 audit
    → IsUtf8 (compact_text (object_of setup entries audit))
object_utf8 setup entries audit s e a =
    IsUtf8-append (123 ∷ []) _ (IsUtf8-are_ascii (123 ∷ []) refl)
    (pair_utf8 (codes "audit") (91 ∷ items_text false (items_of (map string audit))) _ refl (array_utf8 audit a)
    (later_utf8 (codes "entries") (91 ∷ items_text false (items_of (map string entries))) _ refl (array_utf8 entries e)
    (later_utf8 (codes "m3x") (decimal 1) _ refl one_utf8
    (later_utf8 (codes "setup") (91 ∷ items_text false (items_of (map string setup))) (125 ∷ []) refl (array_utf8 setup s) (IsUtf8-are_ascii (125 ∷ []) refl)))))

plain_ascii : (l : List ℕ) → list_all is_plain l ≡ true → are_ascii l ≡ true
plain_ascii [] h = refl
plain_ascii (c ∷ l) h =
    let s = split (is_plain c) (list_all is_plain l) h in
    let small : ltb c 128 ≡ true = grind (arith, nat_tests, s.0) in
    rw (small, plain_ascii l s.1) refl

all_utf8 : (ls : List (List ℕ)) → list_all (list_all is_plain) ls ≡ true → AllByRecursion IsUtf8 ls
all_utf8 [] h = tt
all_utf8 (l ∷ ls) h =
    let s = split (list_all is_plain l) (list_all (list_all is_plain) ls) h in
    (IsUtf8-are_ascii l (plain_ascii l s.0), all_utf8 ls s.1)

-- ---- so it is read back

pub json_again : (x : SetupValue) (es : List Entry) (ls : List AuditLine) → IsSpelled x es ls
    → journal_of_json (json_text x es ls) ≡ Ok (record { setup = x; entries = es; audit = ls })
json_again x es ls is =
    let utf8 = object_utf8 (setup_lines x) (map entry_line es) (map audit_line ls)
    (all_utf8 (setup_lines x) (setup_lines_plain x is.rules is.setup))
    (all_utf8 (map entry_line es) (map_plain entry_line EntryInRange entry_plain es is.entries))
    (all_utf8 (map audit_line ls) (map_plain audit_line AuditInRange audit_plain ls is.audit)) in
    let found = value_found (json_text x es ls) (journal_object x es ls) utf8 (text_reads (setup_lines x) (map entry_line es) (map audit_line ls)) in
    bytes_again x es ls (json_text x es ls) found is
