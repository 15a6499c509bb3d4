-- A tile's takes over what an activity's program is to see: what the outcome of a take tells it, its resident hears.
use Rattle.std.proofs.Common.{◌≡◌, ℕ, Bool, true, false, cond, List, [], ◌∷◌, ◌++◌, Option, Some, None, refl, sym, subst, ◌∙◌, ap, arith, append-nil}
use Rattle.std.specs.Prelude.{◌==◌, if◌then◌else◌}
use Rattle.std.proofs.lemmas.Bool.Decides.{nat_tests}
use Rattle.m3_base.specs.declared.event.Said.{Said}
use Rattle.m3_base.specs.declared.packet.Packet.{Packet}
use Rattle.m3_base.specs.Calls.JournalCalls.{input_after_answer}
use Rattle.m3_base.specs.Ideal.Acceptance.{arrive_fit}
use Rattle.m3_base.specs.Ideal.Arrival.{Arrival}
use Rattle.m3_base.specs.Ideal.Context.{Context}
use Rattle.m3_base.specs.Ideal.State.{same_act}
use Rattle.m3_base.specs.Placement.Routing.{target}
use Rattle.m3_base.specs.Placement.Take.{is_here}
use Rattle.m3_base.proofs.Activities.{same_act-itself, same_act-joins}
use Rattle.m3_base.proofs.KeyedList.{find-replaced_other, find-replaced_same}
use Rattle.m3_model.specs.Config.KnownActivities.{is_named}
use Rattle.m3_model.specs.Config.Site.{Site}
use Rattle.m3_model.specs.LocalStep.{LocalResult, dropped_result, heard_in_answer, local_result}
use Rattle.m3_model.specs.Parcel.{Heard, Saved}
use Rattle.m3_model.specs.Tile.State.{Resident, Tile}
use Rattle.m3_model.specs.Tile.Step.{act_in, arrive_named, bounced, has_ended, heard_by, is_waiting_resident, resident_act, resident_after_answers, resident_of, take_arrived, take_data, take_here, take_save, with_current, with_resident}
use Rattle.m3_refine.proofs.arrival.CurrentContext.{stay_key}
use Rattle.m3_trace.specs.Hearing.{resident_input}
use Rattle.m3_trace.proofs.hearing.OutcomesTell.{arrival_says, heard_said, heard_target, input_heard, input_quiet}

-- ---- a resident in place of another

module _ (u : Tile) (y z : Resident) (there : resident_of y.act u ≡ Some y) (same : z.act ≡ y.act) where
  pub resident_then : (P : ℕ → Option Resident → Type 0) (b : ℕ) → ((b == y.act) ≡ false → P b (resident_of b u)) → (b ≡ y.act → P b (Some z)) → P b (resident_of b (with_resident z u))
  resident_then P b have now = by_test (b == y.act) refl
    where
      by_test : (c : Bool) → (b == y.act) ≡ c → P b (resident_of b (with_resident z u))
      by_test false d =
          let k : same_act b z.act ≡ false = (ap (λ n. b == n) same ∙ d) in
          subst (P b) (sym (find-replaced_other resident_act same_act same_act b z u.stays same_act-joins k)) (have d)
      by_test true d =
          let k : b ≡ y.act = grind (arith, nat_tests, d) in
          let found : resident_of z.act u ≡ Some y = ap (λ n. resident_of n u) same ∙ there in
          subst (P b) (sym (ap (λ n. resident_of n (with_resident z u)) (k ∙ sym same) ∙ find-replaced_same resident_act same_act same_act z y u.stays (same_act-itself z.act) found)) (now k)

-- ---- takes

module _ (h : Site) (t : Tile) (a : ℕ) (xs : List Heard) where
  -- the fold over outcomes, and what its resident then has
  abbrev pub TakeTells : LocalResult Tile → Type 0
  TakeTells d = input_after_answer a (resident_input (resident_of a t) xs) d.outcome.said ≡ resident_input (resident_of a d.part) xs

  quiet : (d : LocalResult Tile) → heard_said a d.outcome.said ≡ [] → resident_of a d.part ≡ resident_of a t → TakeTells d
  quiet d e s = input_quiet a (resident_of a t) xs d.outcome.said e ∙ ap (λ o. resident_input o xs) (sym s)

  pub dropped_tells : TakeTells (dropped_result t)
  dropped_tells = quiet (dropped_result t) refl refl

  -- who is current has nothing to hear from elsewhere
  module _ (x : Context) (alone : a ≡ x.act → xs ≡ []) (p : Packet) (aim : target p ≡ Some x.act) (r : Arrival) (fit : arrive_fit x p ≡ Some r) where
    abbrev hs : List Heard
    hs = heard_in_answer p

    abbrev came : Tile
    came = with_current (Some r.context) t

    says : heard_said a r.said ≡ (if x.act == a then heard_in_answer p else [])
    says = (arrival_says a x p r fit).0 ∙ heard_target a x.act p aim

    act_same : r.context.act ≡ x.act
    act_same = (arrival_says a x p r fit).1

    told : input_after_answer a (resident_input (resident_of a t) xs) r.said ≡ resident_input (resident_of a t) (xs ++ (if x.act == a then heard_in_answer p else []))
    told = input_heard a (resident_of a t) xs r.said ∙ ap (λ l. resident_input (resident_of a t) (xs ++ l)) says

    told_other : (a == x.act) ≡ false → input_after_answer a (resident_input (resident_of a t) xs) r.said ≡ resident_input (resident_of a t) xs
    told_other d =
        let e : (x.act == a) ≡ false = grind (arith, nat_tests, d) in
        told ∙ ap (λ b. resident_input (resident_of a t) (xs ++ (if b then hs else []))) e ∙ ap (resident_input (resident_of a t)) (append-nil xs)

    told_here : (y : Resident) → a ≡ x.act → resident_of a t ≡ Some y → input_after_answer a (resident_input (resident_of a t) xs) r.said ≡ resident_input (Some (resident_after_answers hs y)) xs
    told_here y k f =
        let e : (x.act == a) ≡ true = grind (arith, nat_tests, k) in
        let none = alone k in
        told ∙ ap (λ b. resident_input (resident_of a t) (xs ++ (if b then hs else []))) e
        ∙ ap (λ l. resident_input (resident_of a t) (l ++ hs)) none
        ∙ ap (λ o. resident_input o hs) f
        ∙ ap (resident_input (Some (resident_after_answers hs y))) (sym none)

    arrived : (o : Option Resident) → resident_of r.context.act t ≡ o → input_after_answer a (resident_input (resident_of a t) xs) r.said ≡ resident_input (resident_of a (heard_by hs came o)) xs
    arrived None f = by_test (a == x.act) refl
      where
        by_test : (b : Bool) → (a == x.act) ≡ b → input_after_answer a (resident_input (resident_of a t) xs) r.said ≡ resident_input (resident_of a t) xs
        by_test false d = told_other d
        by_test true d =
            let k : a ≡ x.act = grind (arith, nat_tests, d) in
            let none : resident_of a t ≡ None = ap (λ n. resident_of n t) (k ∙ sym act_same) ∙ f in
            told ∙ ap (λ o. resident_input o (xs ++ (if x.act == a then hs else []))) none ∙ ap (λ o. resident_input o xs) (sym none)
    arrived (Some y) f =
        let key : y.act ≡ r.context.act = stay_key r.context.act t.stays y f in
        let there : resident_of y.act t ≡ Some y = ap (λ n. resident_of n t) key ∙ f in
        resident_then came y (resident_after_answers hs y) there refl (λ n o. n ≡ a → input_after_answer a (resident_input (resident_of a t) xs) r.said ≡ resident_input o xs) a
        (λ d e. told_other (ap (λ n. a == n) (sym (key ∙ act_same)) ∙ d))
        (λ k e. told_here y (k ∙ key ∙ act_same) (ap (λ n. resident_of n t) k ∙ there)) refl

  named_fit : (x : Context) (p : Packet) (r : Arrival) (b : Bool) → (if b then arrive_fit x p else None) ≡ Some r → arrive_fit x p ≡ Some r
  named_fit x p r true e = e
  named_fit x p r false e = absurd (cc)

  arrived_tells : (x : Context) → (a ≡ x.act → xs ≡ []) → (p : Packet) → target p ≡ Some x.act → (o : Option Arrival) → arrive_named h x p ≡ o → TakeTells (take_arrived h t p o)
  arrived_tells x alone p aim None e = dropped_tells
  arrived_tells x alone p aim (Some r) e = arrived x alone p aim r (named_fit x p r (is_named h p) e) (resident_of r.context.act t) refl

  aimed : (o : Option ℕ) (n : ℕ) → is_here o (Some n) ≡ true → o ≡ Some n
  aimed None n e = absurd (cc)
  aimed (Some b) n e = let k : b ≡ n = grind (arith, nat_tests, e) in ap (λ z. Some z) k

  here_tells : (p : Packet) (o : Option Context) → t.current ≡ o → ((x : Context) → t.current ≡ Some x → a ≡ x.act → xs ≡ []) → is_here (target p) (act_in o) ≡ true → TakeTells (take_here h t p o)
  here_tells p None e alone k = dropped_tells
  here_tells p (Some x) e alone k = arrived_tells x (alone x e) p (aimed (target p) x.act k) (arrive_named h x p) refl

  bounced_tells : (p : Packet) (o : Option ℕ) → TakeTells (bounced t p o)
  bounced_tells p None = dropped_tells
  bounced_tells p (Some b) = quiet (bounced t p (Some b)) refl refl

  -- data arrives, or bounces
  pub data_tells : ((x : Context) → t.current ≡ Some x → a ≡ x.act → xs ≡ []) → (p : Packet) → TakeTells (take_data h t p)
  data_tells alone p = by_test (is_here (target p) (act_in t.current)) refl
    where
      by_test : (b : Bool) → is_here (target p) (act_in t.current) ≡ b → TakeTells (cond b (take_here h t p t.current) (bounced t p (target p)))
      by_test true e = here_tells p t.current refl alone e
      by_test false e = bounced_tells p (target p)

  -- who isn't current is told nothing
  module _ (away : (x : Context) → t.current ≡ Some x → (a == x.act) ≡ false) where
    arrived_silent : (x : Context) → (a == x.act) ≡ false → (p : Packet) → target p ≡ Some x.act → (o : Option Arrival) → arrive_named h x p ≡ o → heard_said a (take_arrived h t p o).outcome.said ≡ []
    arrived_silent x d p aim None e = refl
    arrived_silent x d p aim (Some r) e =
        (arrival_says a x p r (named_fit x p r (is_named h p) e)).0 ∙ heard_target a x.act p aim
        ∙ ap (λ b. if b then heard_in_answer p else []) (let z : (x.act == a) ≡ false = grind (arith, nat_tests, d) in z)

    here_silent : (p : Packet) (o : Option Context) → t.current ≡ o → is_here (target p) (act_in o) ≡ true → heard_said a (take_here h t p o).outcome.said ≡ []
    here_silent p None e k = refl
    here_silent p (Some x) e k = arrived_silent x (away x e) p (aimed (target p) x.act k) (arrive_named h x p) refl

    bounced_silent : (p : Packet) (o : Option ℕ) → heard_said a (bounced t p o).outcome.said ≡ []
    bounced_silent p None = refl
    bounced_silent p (Some b) = refl

    pub data_silent : (p : Packet) → heard_said a (take_data h t p).outcome.said ≡ []
    data_silent p = by_test (is_here (target p) (act_in t.current)) refl
      where
        by_test : (b : Bool) → is_here (target p) (act_in t.current) ≡ b → heard_said a (cond b (take_here h t p t.current) (bounced t p (target p))).outcome.said ≡ []
        by_test true e = here_silent p t.current refl e
        by_test false e = bounced_silent p (target p)

  pub save_silent : (b : ℕ) (o : Option Context) → heard_said a (take_save t b o).outcome.said ≡ []
  save_silent b None = refl
  save_silent b (Some x) = by_test (x.act == b)
    where
      by_test : (c : Bool) → heard_said a (if c then local_result (Said.Saving b) (with_current None t) ((0, Saved x.act x (is_waiting_resident x (resident_of b t)) (has_ended (resident_of b t))) ∷ []) else dropped_result t).outcome.said ≡ []
      by_test true = refl
      by_test false = refl

  -- who is saved hears nothing
  pub save_tells : (b : ℕ) (o : Option Context) → TakeTells (take_save t b o)
  save_tells b None = dropped_tells
  save_tells b (Some x) = by_test (x.act == b)
    where
      by_test : (c : Bool) → TakeTells (if c then local_result (Said.Saving b) (with_current None t) ((0, Saved x.act x (is_waiting_resident x (resident_of b t)) (has_ended (resident_of b t))) ∷ []) else dropped_result t)
      by_test true = quiet (local_result (Said.Saving b) (with_current None t) ((0, Saved x.act x (is_waiting_resident x (resident_of b t)) (has_ended (resident_of b t))) ∷ [])) refl refl
      by_test false = dropped_tells
