-- Names of files: words of visible ASCII characters.
use Rattle.std.specs.Prelude.{ℕ, ◌<◌, Bool, ◌&&◌, nat_le, List, length, IsTrue}
use Rattle.std.specs.List.{list_all}

abbrev pub is_visible : ℕ → Bool
is_visible b = nat_le 33 b && nat_le b 126

pub record IsName (bytes : List ℕ) : Type 0 where
  pub some : 0 < length bytes
  pub visible : IsTrue (list_all is_visible bytes)
