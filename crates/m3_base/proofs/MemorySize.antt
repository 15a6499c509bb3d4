-- What keeps the memory, or its size.
use Rattle.std.proofs.Common.{◌≡◌, ℕ, ◌+◌, ◌≤◌, List, [], ◌∷◌, ◌++◌, length, length-append, length-drop, length-take, take, drop, refl, ◌∙◌, arith}
use Rattle.m3_base.specs.declared.setup_line.SetupLine.{SetupLine}
use Rattle.m3_base.specs.Ideal.Landing.{written_at}
use Rattle.m3_base.specs.Ideal.Opening.{with_line, with_lines}
use Rattle.m3_base.specs.Ideal.State.{State}
use Rattle.m3_base.proofs.GrantsByNumber.{memory-state_with_grant}

pub length-written_at : (place : ℕ) (bytes memory : List ℕ) → place + length bytes ≤ length memory → length (written_at place bytes memory) ≡ length memory
length-written_at place bytes memory inside =
    let a = length-take place memory in
    let b = length-drop (place + length bytes) memory in
    let c = length-append (take place memory) (bytes ++ drop (place + length bytes) memory) in
    let d = length-append bytes (drop (place + length bytes) memory) in
    omega (arith, a, b, c, d, inside)

pub memory-with_line : (s : State) (l : SetupLine) → (with_line s l).memory ≡ s.memory
memory-with_line s (SetupLine.Act a t) = refl
memory-with_line s (SetupLine.Grant line) = memory-state_with_grant s line _
memory-with_line s (SetupLine.Quantum q) = refl
memory-with_line s (SetupLine.Files g) = refl
memory-with_line s (SetupLine.Item a c) = refl
memory-with_line s (SetupLine.AwaitItem a e) = refl
memory-with_line s (SetupLine.Writer a m d e c r b) = refl
memory-with_line s (SetupLine.Reader a m d c r f) = refl
memory-with_line s (SetupLine.Boxed a x f) = refl

pub memory-with_lines : (s : State) (ls : List SetupLine) → (with_lines s ls).memory ≡ s.memory
memory-with_lines s [] = refl
memory-with_lines s (l ∷ ls) = memory-with_lines (with_line s l) ls ∙ memory-with_line s l
