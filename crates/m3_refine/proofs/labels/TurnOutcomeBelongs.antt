-- The outcome of a turn belongs to it by its form, and its activity has a context.
use Rattle.std.proofs.Common.{◌≡◌, ℕ, Bool, true, false, Option, Some, None, refl, subst, ap}
use Rattle.std.specs.Prelude.{◌&&◌, ◌==◌, is_some}
use Rattle.m3_base.specs.declared.message.Message.{Message}
use Rattle.m3_base.specs.declared.command.Command.{Command}
use Rattle.m3_base.specs.declared.command.Reply.{Reply}
use Rattle.m3_base.specs.declared.event.Event.{Event}
use Rattle.m3_base.specs.declared.event.Made.{Made}
use Rattle.m3_base.specs.declared.event.Outcome.{Outcome}
use Rattle.m3_base.specs.Ideal.Issue.{Flies, Gives, IssueOutcome}
use Rattle.m3_base.specs.Journal.Entry.{shown_message, shown_told}
use Rattle.m3_base.specs.Journal.OutcomeForms.{allows_for_command, allows_for_do, is_allowed_outcome}
use Rattle.m3_base.specs.Ideal.State.{context_of}
use Rattle.m3_model.specs.Config.Site.{Home, Site, home_of, tile_of}
use Rattle.m3_model.specs.Tile.State.{Tile}
use Rattle.m3_model.specs.Tile.Step.{tile_turn}
use Rattle.m3_model.specs.LocalStep.{LocalResult}
use Rattle.m3_model.specs.Machine.{Machine, MachineResult, Part, Kernel_part, Memory_part, Tile_part, done_by, machine_step, of_turn, part_at, part_step}
use Rattle.m3_model.specs.Abstraction.{all_contexts, ideal_of}
use Rattle.m3_model.specs.Invariant.Structure.{MachineStructure}
use Rattle.m3_refine.proofs.abstraction.FindActor.{present-by_act}
use Rattle.m3_refine.proofs.events.turn.TurnRefines.{undeclared_turn}
use Rattle.m3_refine.proofs.events.turn.TurnResults.{HoldsInCases, each_turn}
use Rattle.m3_refine.proofs.labels.CommandOutcomeBelongs.{IssuedTells, issue_tells}
use Rattle.m3_refine.proofs.labels.OrdersSayIdealSteps.{HasContext}
use Rattle.m3_refine.proofs.lists.EachElement.{InSome}
use Rattle.m3_refine.proofs.opening.HomesAndContexts.{some_there}
use Rattle.m3_base.proofs.Options.{some_if_some}

-- ---- what is told of a command is never that the event was idle

message_is : (c : Command) (t : ℕ) (m : Message) (b : Bool) → allows_for_do c (shown_message t m b) ≡ true → allows_for_command c (shown_message t m b) ≡ true
message_is c t m true k = k
message_is c t m false k = k

told_is : (c : Command) (o : IssueOutcome) → allows_for_do c (shown_told o) ≡ true → allows_for_command c (shown_told o) ≡ true
told_is c (Flies id) k = k
told_is c (Gives Reply.Nothing) k = k
told_is c (Gives (Reply.Fetched t m)) k = message_is c t m (m.header.flags == 0) k
told_is c (Gives (Reply.Acknowledged credit)) k = k
told_is c (Gives Reply.Sent) k = k
told_is c (Gives Reply.Replied) k = k
told_is c (Gives Reply.Written) k = k
told_is c (Gives (Reply.Bytes payload)) k = k
told_is c (Gives (Reply.Refused why)) k = k

-- ---- a turn

module _ (h : Site) (a : ℕ) (t : Tile) where
  abbrev Belongs : LocalResult Tile → Type 0
  Belongs d = is_allowed_outcome (Event.Turn a) d.outcome ≡ true

  cases_belong : HoldsInCases h t a (λ d. is_allowed_outcome (Event.Turn a) d.outcome ≡ true)
  cases_belong = record {
    idle = λ why e. ap (λ b. b && true) e;
    issued = λ x y c i e f is. ap (λ b. b && true) (told_is c i.told (subst (IssuedTells c) is (issue_tells x c)));
    awake = λ ep y f. refl;
    yields = λ made said y z f same e. ap (λ b. b && true) e;
  }

  pub turn_belongs : (made : Option Made) → InSome Belongs (tile_turn h t a made)
  turn_belongs made = each_turn h t a Belongs cases_belong made

-- by any part
pub part_turn_belongs : (h : Site) (x : Part) (a : ℕ) (made : Option Made) → InSome (λ d. is_allowed_outcome (Event.Turn a) d.outcome ≡ true) (part_step h x (Event.Turn a) made None)
part_turn_belongs h (Kernel_part k) a made = tt
part_turn_belongs h (Memory_part x) a made = tt
part_turn_belongs h (Tile_part t) a made = as_part (tile_turn h t a made) (turn_belongs h a t made)
  where
    as_part : (o : Option (LocalResult Tile)) → InSome (λ d. is_allowed_outcome (Event.Turn a) d.outcome ≡ true) o → InSome (λ d. is_allowed_outcome (Event.Turn a) d.outcome ≡ true) (of_turn o)
    as_part None k = tt
    as_part (Some d) k = k

-- by the machine
pub turn_form : (h : Site) (m : Machine) (a : ℕ) (made : Option Made) (d : MachineResult) → machine_step h m (Event.Turn a) made ≡ Some d → is_allowed_outcome (Event.Turn a) d.outcome ≡ true
turn_form h m a made d step = by_part (part_step h (part_at (tile_of h a) m) (Event.Turn a) made None) (part_turn_belongs h (part_at (tile_of h a) m) a made) step
  where
    by_part : (o : Option (LocalResult Part)) → InSome (λ x. is_allowed_outcome (Event.Turn a) x.outcome ≡ true) o → done_by (tile_of h a) m o ≡ Some d → is_allowed_outcome (Event.Turn a) d.outcome ≡ true
    by_part None k is = absurd (cc)
    by_part (Some x) k is = let same : x.outcome ≡ d.outcome = cc in subst (λ (o : Outcome). is_allowed_outcome (Event.Turn a) o ≡ true) same k

-- ---- its activity has a context

pub turn_context : (h : Site) (m : Machine) (a : ℕ) (made : Option Made) (d : MachineResult) → MachineStructure h m → machine_step h m (Event.Turn a) made ≡ Some d → HasContext (ideal_of m) (Event.Turn a)
turn_context h m a made d sound step = by_home (home_of a h) refl
  where
    by_home : (o : Option Home) → home_of a h ≡ o → HasContext (ideal_of m) (Event.Turn a)
    by_home None e = absurd (let none = undeclared_turn h m a made e in cc)
    by_home (Some x) e =
        let there = some_there (context_of a (all_contexts m)) (sound.known a (ap is_some e)) in
        some_if_some (context_of a (ideal_of m).contexts) (present-by_act a (all_contexts m) (ap is_some there.1))
