-- The setup's lines leave the number of the kernel's next packet as it is.
use Rattle.std.proofs.Common.{◌≡◌, List, [], ◌∷◌, Option, Some, None, refl, ◌∙◌}
use Rattle.m3_base.specs.declared.order.GrantLine.{GrantLine}
use Rattle.m3_base.specs.declared.packet.Fresh.{Fresh}
use Rattle.m3_base.specs.declared.setup_line.SetupLine.{SetupLine}
use Rattle.m3_base.specs.Ideal.Opening.{state_with_grant, with_line, with_lines}
use Rattle.m3_base.specs.Ideal.State.{State}

kernel_next-state_with_grant : (s : State) (line : GrantLine) (o : Option Fresh) → (state_with_grant s line o).kernel_next ≡ s.kernel_next
kernel_next-state_with_grant s line None = refl
kernel_next-state_with_grant s line (Some f) = refl

kernel_next-with_line : (s : State) (l : SetupLine) → (with_line s l).kernel_next ≡ s.kernel_next
kernel_next-with_line s (SetupLine.Act a t) = refl
kernel_next-with_line s (SetupLine.Grant line) = kernel_next-state_with_grant s line _
kernel_next-with_line s (SetupLine.Quantum n) = refl
kernel_next-with_line s (SetupLine.Files g) = refl
kernel_next-with_line s (SetupLine.Item a c) = refl
kernel_next-with_line s (SetupLine.AwaitItem a ep) = refl
kernel_next-with_line s (SetupLine.Writer a b c d e f g) = refl
kernel_next-with_line s (SetupLine.Reader a b c d e f) = refl
kernel_next-with_line s (SetupLine.Boxed a b c) = refl

pub kernel_next-with_lines : (s : State) (ls : List SetupLine) → (with_lines s ls).kernel_next ≡ s.kernel_next
kernel_next-with_lines s [] = refl
kernel_next-with_lines s (l ∷ ls) = kernel_next-with_lines (with_line s l) ls ∙ kernel_next-with_line s l
