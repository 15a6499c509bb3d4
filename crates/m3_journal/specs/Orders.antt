-- The words of orders to the kernel, and of lines on files.
use Rattle.std.specs.Prelude.{ℕ, List, [], ◌∷◌, codes, decimal}
use Rattle.m3_base.specs.declared.packet.Perm.{Perm}
use Rattle.m3_base.specs.declared.order.GrantLine.{GrantLine}
use Rattle.m3_base.specs.declared.order.Order.{Order}
use Rattle.m3_base.specs.declared.order.FileLine.{FileLine}

abbrev pub perm_word : Perm → List ℕ
perm_word Perm.R = codes "r"
perm_word Perm.W = codes "w"
perm_word Perm.Rw = codes "rw"

-- bytes of memory, and what may be done with them
abbrev pub extent_words : ℕ → ℕ → Perm → List (List ℕ)
extent_words at len perm = codes "at" ∷ decimal at ∷ codes "len" ∷ decimal len ∷ codes "perm" ∷ perm_word perm ∷ []

abbrev pub grant_words : GrantLine → List (List ℕ)
grant_words (GrantLine.Recv act ep slots size) =
    codes "recv" ∷ decimal act ∷ decimal ep ∷ codes "slots" ∷ decimal slots ∷ codes "size" ∷ decimal size ∷ []
grant_words (GrantLine.Send act ep of label credits) =
    codes "send" ∷ decimal act ∷ decimal ep ∷ codes "of" ∷ decimal of ∷ codes "label" ∷ decimal label ∷ codes "credits" ∷ decimal credits ∷ []
grant_words (GrantLine.Range act ep at len perm) =
    codes "range" ∷ decimal act ∷ decimal ep ∷ extent_words at len perm
grant_words (GrantLine.Part act ep of at len perm) =
    codes "part" ∷ decimal act ∷ decimal ep ∷ codes "of" ∷ decimal of ∷ extent_words at len perm

abbrev pub order_words : Order → List (List ℕ)
order_words (Order.Switch tile act) = codes "switch" ∷ decimal tile ∷ decimal act ∷ []
order_words (Order.Grant line) = codes "grant" ∷ grant_words line
order_words (Order.Revoke g) = codes "revoke" ∷ decimal g ∷ []

abbrev pub file_words : FileLine → List (List ℕ)
file_words (FileLine.Create name) = codes "file" ∷ codes "create" ∷ name ∷ []
file_words (FileLine.Extend name bytes) = codes "file" ∷ codes "extend" ∷ name ∷ decimal bytes ∷ []
file_words (FileLine.Remove name) = codes "file" ∷ codes "remove" ∷ name ∷ []
file_words (FileLine.Open name off act ep perm) =
    codes "file" ∷ codes "open" ∷ name ∷ decimal off ∷ decimal act ∷ decimal ep ∷ perm_word perm ∷ []
file_words (FileLine.Close g) = codes "file" ∷ codes "close" ∷ decimal g ∷ []
