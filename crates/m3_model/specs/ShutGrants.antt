-- The kernel's grants between steps: the Close of a live grant was not sent.
use Rattle.std.specs.Prelude.{◌≡◌, true, false, List}
use Rattle.m3_base.specs.Ideal.State.{Grant, is_live}
use Rattle.m3_base.specs.Lists.EachElement.{Each}

-- a grant whose Close was sent is not live
abbrev pub SentAreShut : List Grant → Type 0
SentAreShut gs = Each (λ x. x.close_sent ≡ true → is_live x.standing ≡ false) gs
