-- Event lines that are read straight from a text are those that their words spell.
use Rattle.std.proofs.Common.{◌≢◌, length-append, ◌≡◌, ℕ, ◌+◌, ◌*◌, ◌/◌, ◌%◌, ◌^◌, ◌<◌, ◌≤◌, Bool, true, false, eqb, ltb, ◌&&◌, List, [], ◌∷◌, ◌++◌, length, take, drop, Result, Ok, Err, refl, sym, ap, ◌∙◌, arith, codes, append_assoc, Option, Some, None, IfSome, lit<}
use Rattle.std.specs.Prelude.{decimal, nat_lt}
use Rattle.std.proofs.lemmas.Bool.Decides.{nat_tests}
use Rattle.std.specs.Borrow.{Bor}
use Rattle.std.specs.Str.Lines.{lines}
use Rattle.std.specs.Option.{MatchOption}
use Rattle.std.specs.List.{list_all}
use Rattle.std.specs.Str.{bytes_eq}
use Rattle.std.proofs.lemmas.Fmt.{decimal_digit, decimal_step}
use Rattle.std.proofs.lemmas.List.{take-append-drop}
use Rattle.std.proofs.lemmas.Slice.Eq.{bytes_eq-Decides}
use Rattle.hex.specs.Hex.{decode_of}
use Rattle.hex.specs.declared.error.FromHexError.{FromHexError}
use Rattle.hex.proofs.HexLemmas.{decode_of-ok}
use Rattle.m3_base.specs.declared.command.Command.{Command}
use Rattle.m3_base.specs.declared.event.Event.{Event}
use Rattle.m3_base.specs.declared.order.Order.{Order}
use Rattle.m3_base.specs.Setup.Rules.{SetupValue}
use Rattle.m3_text.specs.declared.hexes.HexCase.{HexCase}
use Rattle.m3_text.specs.Hex.{hex, hex_of, at_most}
use Rattle.m3_text.specs.Lines.{is_word}
use Rattle.m3_text.specs.Printing.{words_text}
use Rattle.m3_text.specs.Printing.{line_text}
use Rattle.m3_text.specs.LineForm.{count_test, form_test}
use Rattle.m3_text.proofs.LinesAgain.{first_again, words_again, words_plain}
use Rattle.m3_text.proofs.Visible.{pass_visible, number_visible}
use Rattle.m3_script.specs.declared.script.Mode.{Mode}
use Rattle.m3_script.specs.CommandForms.{command_of, any_send_of, send_of, call_of, reply_of, write_of}
use Rattle.m3_script.specs.LineForms.{line_of}
use Rattle.m3_script.specs.Rules.{is_allowed, names_undeclared}
use Rattle.m3_script.specs.ScriptText.{State, Running, after_line, after_words, words_of_line}
use Rattle.m3_script.specs.QuickForms.{IsPayloadAtFront, AreLastWords, IsCommandAtFront, IsEventAtFront, ReadsFirst}
use Rattle.m3_script.proofs.NumbersAgain.{ep_again, u32_again}
use Rattle.m3_script.proofs.CommandsAgain.{fetch_again, acknowledge_again, read_again}
use Rattle.m3_script.proofs.EventsAgain.{take_again, do_again, tend_again, switch_again}

pub front_of : (r : Option (Bor (List ℕ))) (s p : List ℕ) → MatchOption r ((rest : List ℕ) → s ≢ p ++ rest) (λ x. s ≡ p ++ x.now)
    → IfSome r (λ rest. s ≡ p ++ rest.now)
front_of None s p h = tt
front_of (Some x) s p h = h

-- ---- numbers

pub one_figure : (text rest : List ℕ) (f : ℕ) → f < 10 → text ≡ (48 + f) ∷ rest → text ≡ decimal f ++ rest
one_figure text rest f lt cut = cut ∙ rw (decimal_digit f lt) refl

-- a figure more is read
pub figure_more : (text rest after : List ℕ) (n f : ℕ) → 1 ≤ n → n < 100000000 → f < 10 → text ≡ decimal n ++ rest → rest ≡ (48 + f) ∷ after
    → text ≡ decimal (10 * n + f) ++ after
figure_more text rest after n f some small lt so_far cut =
    let front : (10 * n + f) / 10 ≡ n = omega arith in
    let last : (10 * n + f) % 10 ≡ f = omega arith in
    let step = decimal_step (10 * n + f) (omega arith) (omega arith) in
    let e : decimal (10 * n + f) ≡ decimal n ++ (48 + f) ∷ [] = rw (front, last) at step in
    so_far ∙ rw (cut, e, append_assoc (decimal n) ((48 + f) ∷ []) after) refl

-- ---- bytes

decoded : (max : ℕ) (r : Result (List ℕ) FromHexError) (bytes : List ℕ) → at_most max r ≡ Ok bytes → (bs : List ℕ) × (r ≡ Ok bs)
decoded max (Ok bs) bytes h = (bs, refl)
decoded max (Err e) bytes h = absurd cc

hex_word : (max : ℕ) (w bytes : List ℕ) → false ≡ eqb (length w) 0 → hex_of HexCase.Either max w ≡ Ok bytes → is_word w ≡ true
unfolding hex_of hex
hex_word max w bytes some h = by_dash (bytes_eq w (codes "-")) refl
  where
    by_dash : (b : Bool) → bytes_eq w (codes "-") ≡ b → is_word w ≡ true
    by_dash true e = rw ((bytes_eq-Decides w (codes "-")).0 e) refl
    by_dash false e =
        let d = decoded max (decode_of w) bytes (rw e at h) in
        let long : ltb 0 (length w) ≡ true = grind arith in
        rw (long, pass_visible w (decode_of-ok w d.0 d.1).1) refl

pub payload_of : (text w rest bytes : List ℕ) (n : ℕ) → w ≡ take n text → rest ≡ drop n text → false ≡ eqb (length w) 0
    → hex_of HexCase.Either 8192 w ≡ Ok bytes → IsPayloadAtFront text bytes rest
payload_of text w rest bytes n front back some h = (w, rw (front, back, take-append-drop n text) refl, hex_word 8192 w bytes some h, h)

-- ---- words

pub line_end : (text rest : List ℕ) → text ≡ 10 ∷ rest → AreLastWords [] text rest
line_end text rest cut = (refl, cut)

pub word_more : (w text mid rest : List ℕ) (ws : List (List ℕ)) → is_word w ≡ true → text ≡ 32 ∷ (w ++ mid) → AreLastWords ws mid rest → AreLastWords (w ∷ ws) text rest
word_more w text mid rest ws is cut last =
    (rw (is, last.0) refl, cut ∙ rw (last.1, append_assoc w (words_text ws) (10 ∷ rest)) refl)

number_more : (text mid rest : List ℕ) (n : ℕ) (ws : List (List ℕ)) → n ≤ 999999999 → text ≡ 32 ∷ (decimal n ++ mid) → AreLastWords ws mid rest
    → AreLastWords (decimal n ∷ ws) text rest
number_more text mid rest n ws le cut last = word_more (decimal n) text mid rest ws (number_visible n (omega arith)) cut last

-- bytes that end a line, or are before its last words
payload_more : (text mid end rest bytes : List ℕ) (ws : List (List ℕ)) (p : IsPayloadAtFront mid bytes end) → text ≡ 32 ∷ mid → AreLastWords ws end rest
    → AreLastWords (p.0 ∷ ws) text rest
payload_more text mid end rest bytes ws p cut last = word_more p.0 text end rest ws p.2 (cut ∙ ap (λ (t : List ℕ). 32 ∷ t) p.1) last

-- ---- commands

pub fetch_front : (text mid rest : List ℕ) (ep : ℕ) → ep ≤ 15 → text ≡ 32 ∷ (decimal ep ++ mid) → mid ≡ 10 ∷ rest
    → IsCommandAtFront (codes " fetch" ++ text) (Command.Fetch ep) rest
fetch_front text mid rest ep le cut end = (
  codes "fetch" ∷ decimal ep ∷ [],
  word_more (codes "fetch") (codes " fetch" ++ text) text rest (decimal ep ∷ []) refl refl
      (number_more text mid rest ep [] (omega arith) cut (line_end mid rest end)),
  omega arith,
  fetch_again HexCase.Either ep (omega arith, le),
)

pub acknowledge_front : (text one two rest : List ℕ) (ep token : ℕ) → ep ≤ 15 → token ≤ 999999999 → text ≡ 32 ∷ (decimal ep ++ one) → one ≡ 32 ∷ (decimal token ++ two)
    → two ≡ 10 ∷ rest → IsCommandAtFront (codes " ack" ++ text) (Command.Acknowledge ep token) rest
acknowledge_front text one two rest ep token le small cut then end = (
  codes "ack" ∷ decimal ep ∷ decimal token ∷ [],
  word_more (codes "ack") (codes " ack" ++ text) text rest (decimal ep ∷ decimal token ∷ []) refl refl
      (number_more text one rest ep (decimal token ∷ []) (omega arith) cut (number_more one two rest token [] small then (line_end two rest end))),
  omega arith,
  acknowledge_again HexCase.Either ep token ((omega arith, le), (omega arith, omega arith)),
)

pub read_front : (text one two three rest : List ℕ) (ep off len : ℕ) → ep ≤ 15 → off ≤ 999999999 → len ≤ 65535 → text ≡ 32 ∷ (decimal ep ++ one)
    → one ≡ 32 ∷ (decimal off ++ two) → two ≡ 32 ∷ (decimal len ++ three) → three ≡ 10 ∷ rest → IsCommandAtFront (codes " read" ++ text) (Command.Read ep off len) rest
read_front text one two three rest ep off len le small short cut then last end = (
  codes "read" ∷ decimal ep ∷ decimal off ∷ decimal len ∷ [],
  word_more (codes "read") (codes " read" ++ text) text rest (decimal ep ∷ decimal off ∷ decimal len ∷ []) refl refl
      (number_more text one rest ep (decimal off ∷ decimal len ∷ []) (omega arith) cut
      (number_more one two rest off (decimal len ∷ []) small then (number_more two three rest len [] (omega arith) last (line_end three rest end)))),
  omega arith,
  read_again HexCase.Either ep off len ((omega arith, le), (omega arith, omega arith), (omega arith, short)),
)

send_words : (ep : ℕ) (w payload : List ℕ) → ep ≤ 15 → hex_of HexCase.Either 8192 w ≡ Ok payload
    → command_of HexCase.Either (codes "send" ∷ decimal ep ∷ w ∷ []) ≡ Ok (Command.Send ep payload None)
unfolding command_of any_send_of send_of count_test
send_words ep w payload le is = rw (ep_again ep (omega arith, le), is) refl

call_words : (ep reply : ℕ) (w payload : List ℕ) → ep ≤ 15 → reply ≤ 15 → hex_of HexCase.Either 8192 w ≡ Ok payload
    → command_of HexCase.Either (codes "send" ∷ decimal ep ∷ w ∷ codes "reply" ∷ decimal reply ∷ []) ≡ Ok (Command.Send ep payload (Some reply))
unfolding command_of any_send_of call_of form_test
call_words ep reply w payload le small is = rw (ep_again ep (omega arith, le), ep_again reply (omega arith, small), is) refl

reply_words : (ep token : ℕ) (w payload : List ℕ) → ep ≤ 15 → token ≤ 999999999 → hex_of HexCase.Either 8192 w ≡ Ok payload
    → command_of HexCase.Either (codes "reply" ∷ decimal ep ∷ decimal token ∷ w ∷ []) ≡ Ok (Command.Reply ep token payload)
unfolding command_of reply_of count_test
reply_words ep token w payload le small is = rw (ep_again ep (omega arith, le), u32_again token (omega arith, omega arith), is) refl

write_words : (ep off : ℕ) (w payload : List ℕ) → ep ≤ 15 → off ≤ 999999999 → hex_of HexCase.Either 8192 w ≡ Ok payload
    → command_of HexCase.Either (codes "write" ∷ decimal ep ∷ decimal off ∷ w ∷ []) ≡ Ok (Command.Write ep off payload)
unfolding command_of write_of count_test
write_words ep off w payload le small is = rw (ep_again ep (omega arith, le), u32_again off (omega arith, omega arith), is) refl

pub send_front : (text one two end rest payload : List ℕ) (ep : ℕ) → ep ≤ 15 → text ≡ 32 ∷ (decimal ep ++ one) → one ≡ 32 ∷ two → IsPayloadAtFront two payload end
    → end ≡ 10 ∷ rest → IsCommandAtFront (codes " send" ++ text) (Command.Send ep payload None) rest
send_front text one two end rest payload ep le cut then p last = (
  codes "send" ∷ decimal ep ∷ p.0 ∷ [],
  word_more (codes "send") (codes " send" ++ text) text rest (decimal ep ∷ p.0 ∷ []) refl refl
      (number_more text one rest ep (p.0 ∷ []) (omega arith) cut (payload_more one two end rest payload [] p then (line_end end rest last))),
  omega arith,
  send_words ep p.0 payload le p.3,
)

pub call_front : (text one two three four five rest payload : List ℕ) (ep reply : ℕ) → ep ≤ 15 → reply ≤ 15 → text ≡ 32 ∷ (decimal ep ++ one) → one ≡ 32 ∷ two
    → IsPayloadAtFront two payload three → three ≡ codes " reply" ++ four → four ≡ 32 ∷ (decimal reply ++ five) → five ≡ 10 ∷ rest
    → IsCommandAtFront (codes " send" ++ text) (Command.Send ep payload (Some reply)) rest
call_front text one two three four five rest payload ep reply le small cut then p wish last end = (
  codes "send" ∷ decimal ep ∷ p.0 ∷ codes "reply" ∷ decimal reply ∷ [],
  word_more (codes "send") (codes " send" ++ text) text rest (decimal ep ∷ p.0 ∷ codes "reply" ∷ decimal reply ∷ []) refl refl
      (number_more text one rest ep (p.0 ∷ codes "reply" ∷ decimal reply ∷ []) (omega arith) cut
      (payload_more one two three rest payload (codes "reply" ∷ decimal reply ∷ []) p then
      (word_more (codes "reply") three four rest (decimal reply ∷ []) refl wish (number_more four five rest reply [] (omega arith) last (line_end five rest end))))),
  omega arith,
  call_words ep reply p.0 payload le small p.3,
)

pub reply_front : (text one two three end rest payload : List ℕ) (ep token : ℕ) → ep ≤ 15 → token ≤ 999999999 → text ≡ 32 ∷ (decimal ep ++ one)
    → one ≡ 32 ∷ (decimal token ++ two) → two ≡ 32 ∷ three → IsPayloadAtFront three payload end → end ≡ 10 ∷ rest
    → IsCommandAtFront (codes " reply" ++ text) (Command.Reply ep token payload) rest
reply_front text one two three end rest payload ep token le small cut then bytes p last = (
  codes "reply" ∷ decimal ep ∷ decimal token ∷ p.0 ∷ [],
  word_more (codes "reply") (codes " reply" ++ text) text rest (decimal ep ∷ decimal token ∷ p.0 ∷ []) refl refl
      (number_more text one rest ep (decimal token ∷ p.0 ∷ []) (omega arith) cut
      (number_more one two rest token (p.0 ∷ []) small then (payload_more two three end rest payload [] p bytes (line_end end rest last)))),
  omega arith,
  reply_words ep token p.0 payload le small p.3,
)

pub write_front : (text one two three end rest payload : List ℕ) (ep off : ℕ) → ep ≤ 15 → off ≤ 999999999 → text ≡ 32 ∷ (decimal ep ++ one)
    → one ≡ 32 ∷ (decimal off ++ two) → two ≡ 32 ∷ three → IsPayloadAtFront three payload end → end ≡ 10 ∷ rest
    → IsCommandAtFront (codes " write" ++ text) (Command.Write ep off payload) rest
write_front text one two three end rest payload ep off le small cut then bytes p last = (
  codes "write" ∷ decimal ep ∷ decimal off ∷ p.0 ∷ [],
  word_more (codes "write") (codes " write" ++ text) text rest (decimal ep ∷ decimal off ∷ p.0 ∷ []) refl refl
      (number_more text one rest ep (decimal off ∷ p.0 ∷ []) (omega arith) cut
      (number_more one two rest off (p.0 ∷ []) small then (payload_more two three end rest payload [] p bytes (line_end end rest last)))),
  omega arith,
  write_words ep off p.0 payload le small p.3,
)

-- ---- events

pub do_front : (text mid rest : List ℕ) (act : ℕ) (command : Command) → act ≤ 63 → text ≡ 32 ∷ (decimal act ++ mid) → IsCommandAtFront mid command rest
    → IsEventAtFront (codes "do" ++ text) (Event.Do act command) rest
unfolding line_of
do_front text mid rest act command le cut is =
    let last = number_more text mid rest act is.0 (omega arith) cut is.1 in
    let few = is.2 in (
      codes "do" ∷ decimal act ∷ is.0,
      last.0,
      ap (λ (t : List ℕ). codes "do" ++ t) last.1,
      refl,
      omega (arith, few),
      rw (do_again HexCase.Either act command is.0 (omega arith, le) is.3) refl,
    )

pub take_front : (text one two rest : List ℕ) (to from : ℕ) → to ≤ 15 → from ≤ 15 → text ≡ 32 ∷ (decimal to ++ one) → one ≡ 32 ∷ (decimal from ++ two) → two ≡ 10 ∷ rest
    → IsEventAtFront (codes "take" ++ text) (Event.Take to from) rest
unfolding line_of
take_front text one two rest to from le small cut then end =
    let last = number_more text one rest to (decimal from ∷ []) (omega arith) cut (number_more one two rest from [] (omega arith) then (line_end two rest end)) in (
      codes "take" ∷ decimal to ∷ decimal from ∷ [],
      last.0,
      ap (λ (t : List ℕ). codes "take" ++ t) last.1,
      refl,
      omega arith,
      rw (take_again HexCase.Either to from ((omega arith, le), (omega arith, small))) refl,
    )

pub tend_front : (text mid rest : List ℕ) (act : ℕ) → act ≤ 63 → text ≡ 32 ∷ (decimal act ++ mid) → mid ≡ 10 ∷ rest
    → IsEventAtFront (codes "tend" ++ text) (Event.Tend act) rest
unfolding line_of
tend_front text mid rest act le cut end =
    let last = number_more text mid rest act [] (omega arith) cut (line_end mid rest end) in (
      codes "tend" ∷ decimal act ∷ [],
      last.0,
      ap (λ (t : List ℕ). codes "tend" ++ t) last.1,
      refl,
      omega arith,
      rw (tend_again HexCase.Either act (omega arith, le)) refl,
    )

pub switch_front : (text one two rest : List ℕ) (tile act : ℕ) → tile ≤ 15 → act ≤ 63 → text ≡ 32 ∷ (decimal tile ++ one) → one ≡ 32 ∷ (decimal act ++ two) → two ≡ 10 ∷ rest
    → IsEventAtFront (codes "switch" ++ text) (Event.Order (Order.Switch tile act)) rest
unfolding line_of
switch_front text one two rest tile act le small cut then end =
    let last = number_more text one rest tile (decimal act ∷ []) (omega arith) cut (number_more one two rest act [] (omega arith) then (line_end two rest end)) in (
      codes "switch" ∷ decimal tile ∷ decimal act ∷ [],
      last.0,
      ap (λ (t : List ℕ). codes "switch" ++ t) last.1,
      refl,
      omega arith,
      rw (switch_again HexCase.Either tile act ((omega arith, le), (omega arith, small))) refl,
    )

-- ---- lines

pub event_taken : (mode : Mode) (boxes : ℕ) (text rest : List ℕ) (event : Event) (x : SetupValue) (events : List Event) → IsEventAtFront text event rest
    → is_allowed mode events event ≡ true → names_undeclared event x ≡ false
    → (line : List ℕ) × (lines text ≡ line ∷ lines rest) × (after_line mode boxes (Running x events) line ≡ Ok (Running x (events ++ event ∷ [])))
unfolding after_line words_of_line after_words
event_taken mode boxes text rest event x events is allowed named =
    let plain = words_plain is.0 is.1 in
    let count = is.4 in
    let few : nat_lt 13 (length is.0) ≡ false = grind (arith, nat_tests, count) in (
      line_text is.0,
      ap lines is.2 ∙ first_again (line_text is.0) rest plain,
      rw (plain, words_again is.0 is.1, is.3, few, is.5, allowed, named) refl,
    )

pub event_shorter : (text rest : List ℕ) (event : Event) → IsEventAtFront text event rest → length rest < length text
event_shorter text rest event is =
    let len = length-append (line_text is.0) (10 ∷ rest) in
    let all : length text ≡ length (line_text is.0 ++ 10 ∷ rest) = ap length is.2 in
    omega (arith, len, all)

-- a script that has begun and stays as it was
pub running_same : (r : Option (Bor (List ℕ))) (x : SetupValue) (new old : List Event) (P : Bor (List ℕ) → Type 0) → MatchOption r (new ≡ old) P
    → MatchOption r (Running x new ≡ Running x old) P
running_same None x new old P h = ap (λ (es : List Event). Running x es) h
running_same (Some rest) x new old P h = h
