-- Grants that are open, and where they are held.
use Rattle.std.specs.Prelude.{◌≡◌, ℕ, true, List, Some}
use Rattle.m3_base.specs.Ideal.State.{Grant, grant_in, holder, holder_ep, is_open}

-- this grant is live or closing, and is held there
pub record HeldThere (gs : List Grant) (g a ep : ℕ) : Type 0 where
  pub grant : Grant
  pub found : grant_in gs g ≡ Some grant
  pub stands : is_open grant.standing ≡ true
  pub act : holder grant.line ≡ a
  pub endpoint : holder_ep grant.line ≡ ep
