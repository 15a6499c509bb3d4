-- What a program is told of a command where it is issued.
use Rattle.std.proofs.Common.{◌≡◌, ℕ, Bool, true, false, length, Option, Some, None, refl, sym, ap, ◌∙◌, arith}
use Rattle.std.specs.Prelude.{◌==◌, ◌&&◌, not, is_some, option_map}
use Rattle.std.proofs.lemmas.Bool.Decides.{nat_tests}
use Rattle.m3_base.specs.declared.command.Command.{Command}
use Rattle.m3_base.specs.declared.event.Made.{Made}
use Rattle.m3_base.specs.declared.event.Said.{Said}
use Rattle.m3_base.specs.declared.command.Reply.{Reply}
use Rattle.m3_base.specs.declared.message.Message.{Message}
use Rattle.m3_base.specs.declared.packet.Packet.{Packet}
use Rattle.m3_base.specs.Ideal.Context.{Context}
use Rattle.m3_base.specs.Ideal.Flights.{name_of}
use Rattle.m3_base.specs.Ideal.Issue.{Issued as Issue, flies_always, is_busy, issue}
use Rattle.m3_base.specs.Journal.Entry.{shown_message, shown_told}
use Rattle.m3_core.specs.IssueView.{issued_by, oldest}
use Rattle.m3_core.specs.declared.issued.Issued.{Issued}
use Rattle.m3_kernel.specs.ParcelView.{out_of}
use Rattle.m3_model.specs.Config.Site.{Site}
use Rattle.m3_model.specs.Tile.State.{Got, Resident, Tile}
use Rattle.m3_model.specs.Tile.State.{Seen as SeenValue}
use Rattle.m3_model.specs.Tile.Step.{new_out, seen_of_reply, turn_issued, with_current, with_resident}
use Rattle.m3_engine.specs.IssueView.{fetched_reply}
use Rattle.m3_engine.specs.TileStepView.{Does, packet_issued, said_fetched, said_issued, said_shown, shown_of}
use Rattle.m3_engine.specs.TurnView.{after_command, outcome_made}
use Rattle.m3_engine.specs.declared.fetched_message.Shown.{Shown}
use Rattle.m3_engine.specs.declared.tile.TileDid.{TileDid}
use Rattle.m3_refine.proofs.events.command.Issue.{WaitsIf, issue_waits}
use Rattle.m3_refine.proofs.events.turn.TurnCommand.{idle_issues}

abbrev seen_in : Option Issue → Option SeenValue
seen_in None = None
seen_in (Some i) = Some (seen_of_reply i.told)

same_seen : (a b : SeenValue) → Some a ≡ Some b → a ≡ b
same_seen a b e = cc

pub fetched_heard : (m : Option Message) (token : Option ℕ) (c : Context) (i : Issue) → issued_by m (Issued.Fetched token) c ≡ Some i → Got (fetched_reply m token) ≡ seen_of_reply i.told
fetched_heard m None c i e = same_seen (Got (fetched_reply m None)) (seen_of_reply i.told) (by_message m e)
  where
    by_message : (m : Option Message) → issued_by m (Issued.Fetched None) c ≡ Some i → Some (Got (fetched_reply m None)) ≡ Some (seen_of_reply i.told)
    by_message None e = ap seen_in e
    by_message (Some x) e = ap seen_in e
fetched_heard (Some m) (Some token) c i e = same_seen (Got (Reply.Fetched token m)) (seen_of_reply i.told) (ap seen_in e)
fetched_heard None (Some token) c i e = absurd (cc)

pub acknowledged_heard : (m : Option Message) (p : Option Packet) (c : Context) (i : Issue) → issued_by m (Issued.Acknowledged p) c ≡ Some i → Got (Reply.Acknowledged (option_map name_of p)) ≡ seen_of_reply i.told
acknowledged_heard m p c i e = same_seen (Got (Reply.Acknowledged (option_map name_of p))) (seen_of_reply i.told) (by_message m e)
  where
    by_message : (m : Option Message) → issued_by m (Issued.Acknowledged p) c ≡ Some i → Some (Got (Reply.Acknowledged (option_map name_of p))) ≡ Some (seen_of_reply i.told)
    by_message None e = ap seen_in e
    by_message (Some x) e = ap seen_in e

-- ---- a command that is issued while none flies

is_issued : (x : Context) (c : Command) → length x.flying ≡ 0 → (o : Option Issue) → issue x c ≡ o → WaitsIf (flies_always c && is_busy x) o → is_some o ≡ true
is_issued x c idle None is w = absurd (let k = idle_issues x c (let n : (length x.flying == 0) ≡ true = grind (arith, nat_tests, idle) in n) in cc)
is_issued x c idle (Some i) is w = refl

shown_as : (t : ℕ) (m : Message) (b : Bool) → said_shown t (shown_of m) (not b) ≡ shown_message t m b
shown_as t m true = refl
shown_as t m false = refl

fetched_nothing : (s : Option Shown) → said_fetched s None ≡ Said.Nothing
fetched_nothing None = refl
fetched_nothing (Some s) = refl

-- what is said and sent of it
pub record IsSaid (h : Site) (m : Option Message) (issued : Issued) (i : Issue) : Type 0 where
  pub said : said_issued (option_map shown_of m) issued ≡ shown_told i.told
  pub out : new_out h (packet_issued issued) ≡ new_out h i.packet

same_issue : (a b : Issue) → Some a ≡ Some b → a ≡ b
same_issue a b e = cc

said_as : (h : Site) (m : Option Message) (issued : Issued) (x : Context) (i : Issue) → issued_by m issued x ≡ Some i → IsSaid h m issued i × (i.context ≡ x)
said_as h m (Issued.Refused why) x i e = by_message m e
  where
    by_message : (m : Option Message) → issued_by m (Issued.Refused why) x ≡ Some i → IsSaid h m (Issued.Refused why) i × (i.context ≡ x)
    by_message None e = let s = same_issue _ i e in (record { said = ap (λ (j : Issue). shown_told j.told) s; out = ap (λ (j : Issue). new_out h j.packet) s }, sym (ap (λ (j : Issue). j.context) s))
    by_message (Some y) e = let s = same_issue _ i e in (record { said = ap (λ (j : Issue). shown_told j.told) s; out = ap (λ (j : Issue). new_out h j.packet) s }, sym (ap (λ (j : Issue). j.context) s))
said_as h m (Issued.Flies id p) x i e = by_message m e
  where
    by_message : (m : Option Message) → issued_by m (Issued.Flies id p) x ≡ Some i → IsSaid h m (Issued.Flies id p) i × (i.context ≡ x)
    by_message None e = let s = same_issue _ i e in (record { said = ap (λ (j : Issue). shown_told j.told) s; out = ap (λ (j : Issue). new_out h j.packet) s }, sym (ap (λ (j : Issue). j.context) s))
    by_message (Some y) e = let s = same_issue _ i e in (record { said = ap (λ (j : Issue). shown_told j.told) s; out = ap (λ (j : Issue). new_out h j.packet) s }, sym (ap (λ (j : Issue). j.context) s))
said_as h m (Issued.Acknowledged p) x i e = by_message m e
  where
    by_message : (m : Option Message) → issued_by m (Issued.Acknowledged p) x ≡ Some i → IsSaid h m (Issued.Acknowledged p) i × (i.context ≡ x)
    by_message None e = let s = same_issue _ i e in (record { said = ap (λ (j : Issue). shown_told j.told) s; out = ap (λ (j : Issue). new_out h j.packet) s }, sym (ap (λ (j : Issue). j.context) s))
    by_message (Some y) e = let s = same_issue _ i e in (record { said = ap (λ (j : Issue). shown_told j.told) s; out = ap (λ (j : Issue). new_out h j.packet) s }, sym (ap (λ (j : Issue). j.context) s))
said_as h m (Issued.Fetched None) x i e = by_message m e
  where
    by_message : (m : Option Message) → issued_by m (Issued.Fetched None) x ≡ Some i → IsSaid h m (Issued.Fetched None) i × (i.context ≡ x)
    by_message None e = let s = same_issue _ i e in (record { said = ap (λ (j : Issue). shown_told j.told) s; out = ap (λ (j : Issue). new_out h j.packet) s }, sym (ap (λ (j : Issue). j.context) s))
    by_message (Some y) e = let s = same_issue _ i e in (record { said = ap (λ (j : Issue). shown_told j.told) s; out = ap (λ (j : Issue). new_out h j.packet) s }, sym (ap (λ (j : Issue). j.context) s))
said_as h None (Issued.Fetched (Some token)) x i e = absurd (cc)
said_as h (Some y) (Issued.Fetched (Some token)) x i e =
    let s = same_issue _ i e in
    (record { said = shown_as token y (y.header.flags == 0) ∙ ap (λ (j : Issue). shown_told j.told) s; out = ap (λ (j : Issue). new_out h j.packet) s }, sym (ap (λ (j : Issue). j.context) s))

pub issue_does : (h : Site) (x new : Context) (c : Command) (issued : Issued) (d : TileDid) (seen : SeenValue) → length x.flying ≡ 0 → issue x c ≡ issued_by (oldest x c) issued new
    → d.outcome ≡ outcome_made (Made.Command c) (said_issued (option_map shown_of (oldest x c)) issued) → out_of d.emit ≡ new_out h (packet_issued issued)
    → ((e : Context) (i : Issue) → issued_by (oldest x c) issued e ≡ Some i → seen ≡ seen_of_reply i.told)
    → (t : Tile) (y : Resident) → Does d (with_resident (after_command seen y) (with_current (Some new) t)) (turn_issued h t y (Made.Command c) (issue x c))
issue_does h x new c issued d seen idle is said sent heard t y = by_issue (issue x c) refl (is_issued x c idle (issue x c) refl (issue_waits x c))
  where
    by_issue : (o : Option Issue) → issue x c ≡ o → is_some o ≡ true → Does d (with_resident (after_command seen y) (with_current (Some new) t)) (turn_issued h t y (Made.Command c) o)
    by_issue None e some = absurd (cc)
    by_issue (Some i) e some =
        let by : issued_by (oldest x c) issued new ≡ Some i = sym is ∙ e in
        let w = said_as h (oldest x c) issued new i by in
        record {
          outcome = said ∙ ap (outcome_made (Made.Command c)) w.0.said;
          part = λ k. with_resident (after_command (heard new i by k) y) (with_current (Some (sym w.1 k)) t);
          out = sent ∙ w.0.out;
        }
