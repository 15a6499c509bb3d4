-- What the words of a line are, and which bytes may stand in a line.
use Rattle.std.specs.Prelude.{ℕ, List, length, Bool, ◌==◌, ◌&&◌, nat_lt, nat_le, not, filter, map}
use Rattle.std.specs.List.{slice_split, list_all}
use Rattle.std.specs.Borrow.{Bor}
use Rattle.m3_base.specs.FileName.{is_visible}

-- the runs of bytes other than spaces
abbrev pub words : List ℕ → List (List ℕ)
words line = filter (λ w. not (length w == 0)) (slice_split (λ b. b == 32) line)

-- a space or a visible ASCII character
abbrev pub is_plain : ℕ → Bool
is_plain b = nat_le 32 b && nat_le b 126

-- one visible character or more
abbrev pub is_word : List ℕ → Bool
is_word w = nat_lt 0 (length w) && list_all is_visible w

-- what borrowed words are
abbrev pub texts : List (Bor (List ℕ)) → List (List ℕ)
texts ws = map (λ w. w.now) ws
