-- The first tile from one on for which there is an event.
use Rattle.std.proofs.Common.{◌≡◌, ℕ, zero, suc, ◌+◌, ◌-◌, ◌<◌, ◌≤◌, List, [], ◌∷◌, Option, Some, None, ap, arith, refl, sym, ◌∙◌, true, false, not}
use Rattle.std.specs.Prelude.{slice_get}
use Rattle.std.proofs.lemmas.Bool.{false≢true}
use Rattle.m3_base.specs.declared.event.Event.{Event}
use Rattle.m3_base.specs.Placement.Driver.{first_for, first_some}
use Rattle.m3_link.specs.LinkOps.{place, list_at, is_nil, has_parcel, IsLeastLink}
use Rattle.m3_model.specs.Config.Site.{Site}
use Rattle.m3_model.specs.Tile.State.{Tile}
use Rattle.m3_base.specs.declared.order.Order.{Order}
use Rattle.m3_base.specs.Placement.Driver.{tiles, tend_of, close_of, order_of}
use Rattle.m3_base.specs.Placement.Order.{least_closing}
use Rattle.m3_model.specs.Kernel.State.{Kernel}
use Rattle.m3_model.specs.Kernel.Driver.{least_tend, next_switch}
use Rattle.m3_model.specs.Machine.{Machine, tile_at}
use Rattle.m3_engine.specs.NextEvent.{first_turn, next_of_kernel, turn_among}
use Rattle.m3_trace.specs.DriverOfMachine.{turn_at, take_if, take_on, next_take_at, next_take_on}

-- so many numbers from t on
abbrev up : ℕ → ℕ → List ℕ
up t zero = []
up t (suc n) = t ∷ up (t + 1) n

-- the event of the first tile from t on that has one
unfoldable pub first_from : (ℕ → Option Event) → ℕ → Option Event
first_from f t = first_for (up t (16 - t)) f

up_more : (t : ℕ) → t < 16 → up t (16 - t) ≡ t ∷ up (t + 1) (16 - (t + 1))
up_more t lt = let e : 16 - t ≡ suc (16 - (t + 1)) = omega arith in ap (up t) e

up_end : (t : ℕ) → 16 ≤ t → up t (16 - t) ≡ []
up_end t le = let e : 16 - t ≡ 0 = omega arith in ap (up t) e

first_alone : (o : Option Event) → first_some (o ∷ []) ≡ o
first_alone None = refl
first_alone (Some e) = refl

module _ (f : ℕ → Option Event) (t : ℕ) where
  pub passes : t < 16 → f t ≡ None → first_from f t ≡ first_from f (t + 1)
  unfolding first_from
  passes within none =
      ap (λ ts. first_for ts f) (up_more t within)
      ∙ ap (λ o. first_some (o ∷ first_for (up (t + 1) (16 - (t + 1))) f ∷ [])) none
      ∙ first_alone (first_for (up (t + 1) (16 - (t + 1))) f)

  pub comes : t < 16 → (e : Event) → f t ≡ Some e → first_from f t ≡ Some e
  unfolding first_from
  comes within e some =
      ap (λ ts. first_for ts f) (up_more t within) ∙ ap (λ o. first_some (o ∷ first_for (up (t + 1) (16 - (t + 1))) f ∷ [])) some

  pub none_left : 16 ≤ t → first_from f t ≡ None
  unfolding first_from
  none_left le = ap (λ ts. first_for ts f) (up_end t le)

-- none of the first n tiles has an event
passes_all : (f : ℕ → Option Event) (n : ℕ) → n ≤ 16 → ((t : ℕ) → t < n → f t ≡ None) → first_from f 0 ≡ first_from f n
passes_all f zero le none = refl
passes_all f (suc n) le none =
    passes_all f n (omega (arith, le)) (λ t lt. none t (omega (arith, lt)))
    ∙ passes f n (omega (arith, le)) (none n (omega arith))
    ∙ ap (first_from f) (let e : n + 1 ≡ suc n = omega arith in e)

module _ {X : Type 0} where
  at_first : (links : List (List X)) (to : ℕ) → next_take_at links to ≡ first_from (take_on links to) 0
  unfolding first_from next_take_at
  at_first links to = refl

  on_first : (links : List (List X)) → next_take_on links ≡ first_from (next_take_at links) 0
  unfolding first_from next_take_on
  on_first links = refl

  take_none : (to from : ℕ) (ps : List X) → not (is_nil ps) ≡ false → take_if to from ps ≡ None
  take_none to from [] e = refl
  take_none to from (p ∷ ps) e = absurd (false≢true (sym e))

  take_some : (to from : ℕ) (ps : List X) → not (is_nil ps) ≡ true → take_if to from ps ≡ Some (Event.Take to from)
  take_some to from (p ∷ ps) e = refl
  take_some to from [] e = absurd (false≢true e)

  none_to : (links : List (List X)) (to : ℕ) → ((f : ℕ) → f < 16 → has_parcel links f to ≡ false) → next_take_at links to ≡ None
  none_to links to none =
      at_first links to
      ∙ passes_all (take_on links to) 16 (omega arith) (λ f lt. take_none to f (list_at links (place f to)) (none f lt))
      ∙ none_left (take_on links to) 16 (omega arith)

  pub no_take : (links : List (List X)) → IsLeastLink links None → next_take_on links ≡ None
  no_take links none =
      on_first links
      ∙ passes_all (next_take_at links) 16 (omega arith) (λ t lt. none_to links t (λ f lf. none f t lf lt))
      ∙ none_left (next_take_at links) 16 (omega arith)

  pub least_take : (links : List (List X)) (to from : ℕ) → IsLeastLink links (Some (to, from)) → next_take_on links ≡ Some (Event.Take to from)
  least_take links to from l =
      on_first links
      ∙ passes_all (next_take_at links) to (let h = l.to_low in omega (arith, h)) (λ t lt. none_to links t (λ f lf. l.least f t lf (omega (arith, lt, lf))))
      ∙ comes (next_take_at links) to l.to_low (Event.Take to from) here
    where
      here : next_take_at links to ≡ Some (Event.Take to from)
      here =
          at_first links to
          ∙ passes_all (take_on links to) from (let h = l.from_low in omega (arith, h)) (λ f lf. take_none to f (list_at links (place f to)) (l.least f to (let h = l.from_low in omega (arith, lf, h)) (omega (arith, lf))))
          ∙ comes (take_on links to) from l.from_low (Event.Take to from) (take_some to from (list_at links (place from to)) l.some)

module _ (h : Site) (ts : List Tile) where
  pub turns_at_first : first_turn h ts ≡ first_from (turn_among h ts) 0
  unfolding first_from first_turn
  turns_at_first = refl

-- six causes in their order, by parts
pub by_parts : (h : Site) (m : Machine) (left : List Order) (take : Option Event) → first_some (take ∷ next_of_kernel h m.kernel left ∷ first_turn h m.tiles ∷ [])
    ≡ first_some (take ∷ tend_of (least_tend m.kernel.seats) ∷ close_of (least_closing m.kernel.grants 1 m.kernel.grants) ∷ order_of left ∷ next_switch h m.kernel ∷ first_for tiles (λ t. turn_at h (tile_at t m) (tile_at t m).current) ∷ [])
unfolding next_of_kernel first_turn
by_parts h m left take = three_parts take _ _ _ _ _
  where
    three_parts : (take tend close order switch turn : Option Event) → first_some (take ∷ first_some (tend ∷ close ∷ order ∷ switch ∷ []) ∷ turn ∷ []) ≡ first_some (take ∷ tend ∷ close ∷ order ∷ switch ∷ turn ∷ [])
    three_parts (Some e) tend close order switch turn = refl
    three_parts None (Some e) close order switch turn = refl
    three_parts None None (Some e) order switch turn = refl
    three_parts None None None (Some e) switch turn = refl
    three_parts None None None None (Some e) turn = refl
    three_parts None None None None None turn = refl

-- what the kernel makes next, by what it has
module _ (h : Site) (k : Kernel) (left : List Order) where
  pub kernel_tends : (a : ℕ) → least_tend k.seats ≡ Some a → next_of_kernel h k left ≡ Some (Event.Tend a)
  unfolding next_of_kernel
  kernel_tends a e = ap (λ o. first_some (tend_of o ∷ close_of (least_closing k.grants 1 k.grants) ∷ order_of left ∷ next_switch h k ∷ [])) e

  module _ (none : least_tend k.seats ≡ None) where
    pub kernel_closes : (g : ℕ) → least_closing k.grants 1 k.grants ≡ Some g → next_of_kernel h k left ≡ Some Event.Close
    unfolding next_of_kernel
    kernel_closes g e = λ i. first_some (tend_of (none i) ∷ close_of (e i) ∷ order_of left ∷ next_switch h k ∷ [])

    module _ (live : least_closing k.grants 1 k.grants ≡ None) where
      pub kernel_orders : (e : Event) → order_of left ≡ Some e → next_of_kernel h k left ≡ Some e
      unfolding next_of_kernel
      kernel_orders e is = λ i. first_some (tend_of (none i) ∷ close_of (live i) ∷ is i ∷ next_switch h k ∷ [])

      pub kernel_switches : order_of left ≡ None → next_of_kernel h k left ≡ next_switch h k
      unfolding next_of_kernel
      kernel_switches is = (λ i. first_some (tend_of (none i) ∷ close_of (live i) ∷ is i ∷ next_switch h k ∷ [])) ∙ first_alone (next_switch h k)

pub first_order : (left : List Order) (o : Order) → Some o ≡ slice_get left 0 → order_of left ≡ Some (Event.Order o)
first_order [] o e = absurd (cc)
first_order (x ∷ xs) o e = ap order_in (sym e)
  where
    order_in : Option Order → Option Event
    order_in None = None
    order_in (Some y) = Some (Event.Order y)

pub no_order : (left : List Order) → None ≡ slice_get left 0 → order_of left ≡ None
no_order [] e = refl
no_order (x ∷ xs) e = absurd (cc)
