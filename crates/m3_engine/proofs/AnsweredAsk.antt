-- A turn's move, as it is asked for.
use Rattle.std.proofs.Common.{◌≡◌, ℕ, true, Option, Some, None, refl, sym, ap, subst, ◌∙◌, arith}
use Rattle.std.proofs.lemmas.Bool.Decides.{nat_tests}
use Rattle.m3_base.specs.declared.event.IdleWhy.{IdleWhy}
use Rattle.m3_base.specs.declared.event.Made.{Made}
use Rattle.m3_base.specs.declared.program.Move.{Move}
use Rattle.m3_base.specs.declared.program.Seen.{Seen}
use Rattle.m3_base.specs.Programs.{is_short_move}
use Rattle.m3_model.specs.Tile.Ask.{Ask, Idle_turn, Quantum_turn, Pending_turn, Program_turn, answers_ask, is_program_move}
use Rattle.m3_model.specs.Tile.State.{First, Awake, Got, Waits}
use Rattle.m3_model.specs.Tile.State.{Seen as SeenValue}
use Rattle.m3_engine.specs.ProgramTurn.{IsAsked, IsHeard, IsMove, made_of}
use Rattle.m3_engine.specs.ShownSeen.{shown_seen}
use Rattle.m3_engine.specs.TurnView.{IsShort, ask_kind}
use Rattle.m3_engine.specs.declared.ask.Ask.{Ask as AskKind}

pub is_own_move : (m : Move) → is_program_move (made_of m) ≡ true
is_own_move (Move.Do c) = refl
is_own_move (Move.Await ep) = refl
is_own_move Move.Ended = refl

short_made : (m : Move) → is_short_move m ≡ true → IsShort (Some (made_of m))
short_made (Move.Do c) e = e
short_made (Move.Await ep) e = tt
short_made Move.Ended e = tt

same_number : (a : ℕ) → answers_ask (Pending_turn a) (Some (Made.Await a)) ≡ true
same_number a = grind (arith, nat_tests)

module _ {M : Type 0} (moves : M → Seen → Move → M → Type 0) (old new : M) where
  pub answers_asked : (ask : Ask) (made : Option Made) → IsAsked moves old new ask made → answers_ask ask made ≡ true
  answers_asked (Idle_turn why) made w = ap (answers_ask (Idle_turn why)) w.0
  answers_asked Quantum_turn made w = ap (answers_ask Quantum_turn) w.0
  answers_asked (Pending_turn ep) made w = ap (answers_ask (Pending_turn ep)) w.0 ∙ same_number ep
  answers_asked (Program_turn value) made w = ap (answers_ask (Program_turn value)) w.told ∙ is_own_move w.move

  pub short_asked : (ask : Ask) (made : Option Made) → IsAsked moves old new ask made → IsShort made
  short_asked (Idle_turn why) made w = subst IsShort (sym w.0) tt
  short_asked Quantum_turn made w = subst IsShort (sym w.0) tt
  short_asked (Pending_turn ep) made w = subst IsShort (sym w.0) tt
  short_asked (Program_turn value) made w = subst IsShort (sym w.told) (short_made w.move w.short)

  -- ---- what the code knows of the ask

  pub idle_asked : (ask : Ask) (kind : AskKind) → (why : IdleWhy) → kind ≡ ask_kind ask → kind ≡ AskKind.Idle why → new ≡ old → IsAsked moves old new ask None
  idle_asked (Idle_turn w) kind why k e same = (refl, same)
  idle_asked Quantum_turn kind why k e same = absurd (cc)
  idle_asked (Pending_turn ep) kind why k e same = absurd (cc)
  idle_asked (Program_turn value) kind why k e same = absurd (cc)

  pub quantum_asked : (ask : Ask) (kind : AskKind) → kind ≡ ask_kind ask → kind ≡ AskKind.Quantum → new ≡ old → IsAsked moves old new ask (Some Made.Quantum)
  quantum_asked (Idle_turn w) kind k e same = absurd (cc)
  quantum_asked Quantum_turn kind k e same = (refl, same)
  quantum_asked (Pending_turn ep) kind k e same = absurd (cc)
  quantum_asked (Program_turn value) kind k e same = absurd (cc)

  pub pending_asked : (ask : Ask) (kind : AskKind) (ep : ℕ) → kind ≡ ask_kind ask → kind ≡ AskKind.Pending ep → new ≡ old → IsAsked moves old new ask (Some (Made.Await ep))
  pending_asked (Idle_turn w) kind ep k e same = absurd (cc)
  pending_asked Quantum_turn kind ep k e same = absurd (cc)
  pending_asked (Pending_turn n) kind ep k e same = (let n : n ≡ ep = same_pending n ep (sym k ∙ e) in ap (λ i. Some (Made.Await i)) (sym n), same)
    where
      same_pending : (a b : ℕ) → AskKind.Pending a ≡ AskKind.Pending b → a ≡ b
      same_pending a b w = cc
  pending_asked (Program_turn value) kind ep k e same = absurd (cc)

  pub program_asked : (ask : Ask) (kind : AskKind) (seen : Seen) (made : Made) → kind ≡ ask_kind ask → kind ≡ AskKind.Program
      → ((value : SeenValue) → ask ≡ Program_turn value → shown_seen value ≡ Some seen) → IsMove moves old new seen made → IsAsked moves old new ask (Some made)
  program_asked (Idle_turn w) kind seen made k e shown move = absurd (cc)
  program_asked Quantum_turn kind seen made k e shown move = absurd (cc)
  program_asked (Pending_turn n) kind seen made k e shown move = absurd (cc)
  program_asked (Program_turn value) kind seen made k e shown move = record {
    seen = seen;
    move = move.move;
    shown = shown value refl;
    moved = move.moved;
    short = move.short;
    told = ap (λ m. Some m) move.told;
  }

-- a program that is asked is shown something
is_shown : (value : SeenValue) → ((n : ℕ) → Program_turn value ≡ Program_turn (Waits n) → ⊥) → shown_seen value ≡ None → ⊥
is_shown First heard e = absurd (cc)
is_shown Awake heard e = absurd (cc)
is_shown (Got r) heard e = absurd (cc)
is_shown (Waits n) heard e = heard n refl

pub never_deaf : (ask : Ask) (kind : AskKind) (seen : Option Seen) → IsHeard ask → kind ≡ ask_kind ask → kind ≡ AskKind.Program → ((value : SeenValue) → ask ≡ Program_turn value → seen ≡ shown_seen value) → seen ≡ None → ⊥
never_deaf (Idle_turn w) kind seen heard k e shown none = absurd (cc)
never_deaf Quantum_turn kind seen heard k e shown none = absurd (cc)
never_deaf (Pending_turn n) kind seen heard k e shown none = absurd (cc)
never_deaf (Program_turn value) kind seen heard k e shown none = is_shown value heard (sym (shown value refl) ∙ none)
