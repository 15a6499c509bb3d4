-- A line that a script may have gives no program of one line.
use Rattle.std.proofs.Common.{◌≡◌, ℕ, Bool, true, false, List, Result, Ok, Err, refl, sym, ◌∙◌, codes, drop}
use Rattle.std.specs.Prelude.{if◌then◌else◌, IfOk}
use Rattle.std.specs.Str.{bytes_eq}
use Rattle.std.proofs.lemmas.Slice.Eq.{bytes_eq-Decides}
use Rattle.m3_base.specs.declared.order.GrantLine.{GrantLine}
use Rattle.m3_base.specs.declared.setup_line.SetupLine.{SetupLine}
use Rattle.m3_text.specs.declared.hexes.HexCase.{HexCase}
use Rattle.m3_text.specs.declared.refusal.Why.{Why}
use Rattle.m3_text.specs.Refusable.{◌>>=◌}
use Rattle.m3_text.specs.Number.{number}
use Rattle.m3_text.specs.LineForm.{word, count_test, form_test}
use Rattle.m3_script.specs.Grants.{grant_of}
use Rattle.m3_script.specs.LineForms.{begins_setup_line}
use Rattle.m3_script.specs.Rules.{IsListed}
use Rattle.m3_script.specs.Setups.{act_form, await_item_form, act_of, quantum_of, files_of, await_item_of, act_command_of, item_of, writer_of, reader_of, box_of, setup_line_of}

pub if_then : {A B : Type 0} (P : B → Type 0) (r : Result A Why) (f : A → Result B Why) → ((x : A) → r ≡ Ok x → IfOk (f x) P) → IfOk (r >>= f) P
if_then P (Ok x) f k = k x refl
if_then P (Err w) f k = tt

-- ---- form by form

act_listed : (ws : List (List ℕ)) → IfOk (act_of ws) IsListed
unfolding act_of
act_listed ws =
    if_then IsListed (form_test act_form ws) _ (λ form fits.
    if_then IsListed (number 0 63 (word 0 ws)) _ (λ act is_act.
    if_then IsListed (number 0 15 (word 2 ws)) _ (λ tile is_tile. tt)))

quantum_listed : (ws : List (List ℕ)) → IfOk (quantum_of ws) IsListed
unfolding quantum_of
quantum_listed ws =
    if_then IsListed (count_test 1 ws) _ (λ count is_count.
    if_then IsListed (number 1 64 (word 0 ws)) _ (λ quantum is_quantum. tt))

files_listed : (ws : List (List ℕ)) → IfOk (files_of ws) IsListed
unfolding files_of
files_listed ws =
    if_then IsListed (count_test 1 ws) _ (λ count is_count.
    if_then IsListed (number 1 4096 (word 0 ws)) _ (λ g is_g. tt))

await_item_listed : (ws : List (List ℕ)) → IfOk (await_item_of ws) IsListed
unfolding await_item_of
await_item_listed ws =
    if_then IsListed (form_test await_item_form ws) _ (λ form fits.
    if_then IsListed (number 0 63 (word 0 ws)) _ (λ act is_act.
    if_then IsListed (number 0 15 (word 2 ws)) _ (λ ep is_ep. tt)))

item_by : (await : Bool) (case : HexCase) (ws : List (List ℕ))
    → IfOk (if await then await_item_of ws else (act_command_of case ws >>= λ x. Ok (SetupLine.Item x.0 x.1))) IsListed
item_by true case ws = await_item_listed ws
item_by false case ws = if_then IsListed (act_command_of case ws) _ (λ x is. tt)

item_listed : (case : HexCase) (ws : List (List ℕ)) → IfOk (item_of case ws) IsListed
unfolding item_of
item_listed case ws = item_by (bytes_eq (word 1 ws) (codes "await")) case ws

grant_listed : (r : Result GrantLine Why) → IfOk (r >>= λ line. Ok (SetupLine.Grant line)) IsListed
grant_listed (Ok line) = tt
grant_listed (Err w) = tt

-- ---- by the first word

-- a word that begins nothing of these isn't a word that begins one of them
pub other_word : (begins : List ℕ → Bool) (w k : List ℕ) → begins k ≡ false → begins w ≡ true → bytes_eq w k ≡ false
other_word begins w k none first = go (bytes_eq w k) refl
  where
    go : (b : Bool) → bytes_eq w k ≡ b → bytes_eq w k ≡ false
    go false e = e
    go true e = let same : w ≡ k = (bytes_eq-Decides w k).0 e in let is : begins k ≡ true = rw same at first in let no = sym none ∙ is in absurd cc

listed_by : (act prog writer reader box quantum files : Bool) (case : HexCase) (ws vs : List (List ℕ)) → writer ≡ false → reader ≡ false → box ≡ false
    → IfOk (
    if act then act_of vs
    else if prog then item_of case vs
    else if writer then writer_of case vs
    else if reader then reader_of vs
    else if box then box_of vs
    else if quantum then quantum_of vs
    else if files then files_of vs
    else (grant_of ws >>= λ line. Ok (SetupLine.Grant line))
    ) IsListed
listed_by true prog writer reader box quantum files case ws vs w r b = act_listed vs
listed_by false true writer reader box quantum files case ws vs w r b = item_listed case vs
listed_by false false true reader box quantum files case ws vs w r b = absurd cc
listed_by false false false true box quantum files case ws vs w r b = absurd cc
listed_by false false false false true quantum files case ws vs w r b = absurd cc
listed_by false false false false false true files case ws vs w r b = quantum_listed vs
listed_by false false false false false false true case ws vs w r b = files_listed vs
listed_by false false false false false false false case ws vs w r b = grant_listed (grant_of ws)

pub setup_line_listed : (case : HexCase) (ws : List (List ℕ)) → begins_setup_line (word 0 ws) ≡ true → IfOk (setup_line_of case ws) IsListed
unfolding setup_line_of
setup_line_listed case ws begins =
    let w = word 0 ws in
    listed_by (bytes_eq w (codes "act")) (bytes_eq w (codes "prog")) (bytes_eq w (codes "writer")) (bytes_eq w (codes "reader")) (bytes_eq w (codes "box"))
    (bytes_eq w (codes "quantum")) (bytes_eq w (codes "files")) case ws (drop 1 ws)
    (other_word begins_setup_line w (codes "writer") refl begins) (other_word begins_setup_line w (codes "reader") refl begins) (other_word begins_setup_line w (codes "box") refl begins)
