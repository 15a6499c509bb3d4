-- What is read as one thing has not the first word of another.
use Rattle.std.proofs.Common.{◌≡◌, ℕ, Bool, true, false, List, [], ◌∷◌, Result, Ok, Err, refl, codes}
use Rattle.std.specs.Str.{bytes_eq}
use Rattle.std.proofs.lemmas.Slice.Eq.{bytes_eq-Decides}
use Rattle.m3_base.specs.declared.command.Command.{Command}
use Rattle.m3_base.specs.declared.order.GrantLine.{GrantLine}
use Rattle.m3_text.specs.declared.hexes.HexCase.{HexCase}
use Rattle.m3_text.specs.declared.refusal.Why.{Why}
use Rattle.m3_text.specs.declared.refusal.Why.TheVariants as why
use Rattle.m3_text.specs.LineForm.{word}
use Rattle.m3_script.specs.CommandForms.{command_of}
use Rattle.m3_script.specs.Grants.{grant_of}

-- a word that begins nothing that is read isn't the first of what is read
pub other_word : {X : Type 0} (reads : List (List ℕ) → Result X Why) (k : List ℕ) → bytes_eq [] k ≡ false
    → ((vs : List (List ℕ)) → reads (k ∷ vs) ≡ Err why.Form) → (ws : List (List ℕ)) (x : X) → reads ws ≡ Ok x → bytes_eq (word 0 ws) k ≡ false
other_word reads k some unread [] x is = some
other_word reads k some unread (w ∷ vs) x is = go (bytes_eq w k) refl
  where
    go : (b : Bool) → bytes_eq w k ≡ b → bytes_eq w k ≡ false
    go false e = e
    go true e = let same : w ≡ k = (bytes_eq-Decides w k).0 e in let read = rw same at is in let refused = unread vs in absurd cc

no_command_word : (case : HexCase) (k : List ℕ) → bytes_eq [] k ≡ false → ((vs : List (List ℕ)) → command_of case (k ∷ vs) ≡ Err why.Form)
    → (ws : List (List ℕ)) (c : Command) → command_of case ws ≡ Ok c → bytes_eq (word 0 ws) k ≡ false
no_command_word case k some unread ws c is = other_word (command_of case) k some unread ws c is

pub no_await : (case : HexCase) (ws : List (List ℕ)) (c : Command) → command_of case ws ≡ Ok c → bytes_eq (word 0 ws) (codes "await") ≡ false
unfolding command_of
no_await case ws c is = no_command_word case (codes "await") refl (λ vs. refl) ws c is

pub no_quantum : (case : HexCase) (ws : List (List ℕ)) (c : Command) → command_of case ws ≡ Ok c → bytes_eq (word 0 ws) (codes "quantum") ≡ false
unfolding command_of
no_quantum case ws c is = no_command_word case (codes "quantum") refl (λ vs. refl) ws c is

pub no_end : (case : HexCase) (ws : List (List ℕ)) (c : Command) → command_of case ws ≡ Ok c → bytes_eq (word 0 ws) (codes "end") ≡ false
unfolding command_of
no_end case ws c is = no_command_word case (codes "end") refl (λ vs. refl) ws c is

-- a word that begins no grant
pub no_grant : (k : List ℕ) → bytes_eq [] k ≡ false → ((vs : List (List ℕ)) → grant_of (k ∷ vs) ≡ Err why.Form)
    → (ws : List (List ℕ)) (line : GrantLine) → grant_of ws ≡ Ok line → bytes_eq (word 0 ws) k ≡ false
no_grant k some unread ws line is = other_word grant_of k some unread ws line is
