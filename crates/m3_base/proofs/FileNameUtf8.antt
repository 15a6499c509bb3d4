-- Names are text.
use Rattle.std.proofs.Common.{◌≡◌, ℕ, zero, suc, true, List, [], ◌∷◌, arith}
use Rattle.std.specs.Prelude.{IsUtf8, IsAscii}
use Rattle.std.specs.List.{list_all}
use Rattle.std.proofs.lemmas.Str.{IsUtf8-from_ascii}
use Rattle.std.proofs.lemmas.Grind.{common_steps}
use Rattle.m3_base.specs.FileName.{IsName, is_visible}
use Rattle.std.proofs.lemmas.Bool.{and_parts}

visible_ascii : (bytes : List ℕ) → list_all is_visible bytes ≡ true → IsAscii bytes
visible_ascii [] h i = grind (arith, common_steps)
visible_ascii (b ∷ bytes) h zero = let s = and_parts (is_visible b) (list_all is_visible bytes) h in let v = s.0 in grind (arith, common_steps, v)
visible_ascii (b ∷ bytes) h (suc i) = let s = and_parts (is_visible b) (list_all is_visible bytes) h in visible_ascii bytes s.1 i

pub name_is_utf8 : (bytes : List ℕ) → IsName bytes → IsUtf8 bytes
name_is_utf8 bytes is = IsUtf8-from_ascii bytes (visible_ascii bytes is.visible)
