-- Grants that are printed are read back, form by form.
use Rattle.std.specs.Prelude.{◌≡◌, ℕ, List, [], ◌∷◌, codes, decimal, Ok}
use Rattle.m3_base.specs.declared.order.GrantLine.{GrantLine}
use Rattle.m3_base.specs.declared.packet.Perm.{Perm}
use Rattle.m3_script.specs.Grants.{perm_of, grant_of}
use Rattle.m3_script.specs.InRange.{GrantInRange}

abbrev pub RecvAgain : Type 0
RecvAgain = (act ep slots size : ℕ) → GrantInRange (GrantLine.Recv act ep slots size)
    → grant_of (codes "recv" ∷ decimal act ∷ decimal ep ∷ codes "slots" ∷ decimal slots ∷ codes "size" ∷ decimal size ∷ [])
    ≡ Ok (GrantLine.Recv act ep slots size)

abbrev pub SendAgain : Type 0
SendAgain = (act ep of label credits : ℕ) → GrantInRange (GrantLine.Send act ep of label credits)
    → grant_of (codes "send" ∷ decimal act ∷ decimal ep ∷ codes "of" ∷ decimal of ∷ codes "label" ∷ decimal label ∷ codes "credits" ∷ decimal credits ∷ [])
    ≡ Ok (GrantLine.Send act ep of label credits)

-- a permission is by the word that is printed for it
abbrev pub RangeAgain : Type 0
RangeAgain = (act ep at len : ℕ) (perm : Perm) (w : List ℕ) → perm_of w ≡ Ok perm → GrantInRange (GrantLine.Range act ep at len perm)
    → grant_of (codes "range" ∷ decimal act ∷ decimal ep ∷ codes "at" ∷ decimal at ∷ codes "len" ∷ decimal len ∷ codes "perm" ∷ w ∷ [])
    ≡ Ok (GrantLine.Range act ep at len perm)

abbrev pub PartAgain : Type 0
PartAgain = (act ep of at len : ℕ) (perm : Perm) (w : List ℕ) → perm_of w ≡ Ok perm → GrantInRange (GrantLine.Part act ep of at len perm)
    → grant_of (codes "part" ∷ decimal act ∷ decimal ep ∷ codes "of" ∷ decimal of ∷ codes "at" ∷ decimal at ∷ codes "len" ∷ decimal len ∷ codes "perm" ∷ w ∷ [])
    ≡ Ok (GrantLine.Part act ep of at len perm)

abbrev pub RAgain : Type 0
RAgain = perm_of (codes "r") ≡ Ok Perm.R

abbrev pub WAgain : Type 0
WAgain = perm_of (codes "w") ≡ Ok Perm.W

abbrev pub RwAgain : Type 0
RwAgain = perm_of (codes "rw") ≡ Ok Perm.Rw
