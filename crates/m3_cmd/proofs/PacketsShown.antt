-- Packets shown one after the other.
use Rattle.std.proofs.Common.{◌≡◌, ℕ, zero, suc, ◌+◌, ◌-◌, ◌<◌, ◌≤◌, List, [], ◌∷◌, ◌++◌, length, take, drop, map, Err, refl, sym, ap, subst, ◌∙◌, arith, append_assoc, length-append, length-drop, inr}
use Rattle.std.proofs.lemmas.List.{take_all, take-append-drop, append-nil, drop_at}
use Rattle.m3_base.specs.declared.packet.Packet.{Packet}
use Rattle.m3_text.specs.Printing.{text_of_lines}
use Rattle.m3_wire.specs.Grammar.{IsFirst, Refuses, IsRead, TakesNone}
use Rattle.m3_wire.specs.Packets.{IsPacket, packet_part}
use Rattle.m3_wire.specs.declared.refusal.WireRefusal.{WireRefusal}
use Rattle.m3_cmd.specs.declared.show.ShowRefusal.{ShowRefusal}
use Rattle.m3_cmd.specs.ShowContract.{AreSpelled, AreNoPackets, IsRefusalLine, IsShowAnswer, IsShown, IsRefusedAfter, IsNext, IsWhy, packet_line, place_of, refused_after}

abbrev pub lines : List Packet → List ℕ
lines ps = text_of_lines (map packet_line ps)

-- so many of the bytes are shown
pub record Shows (bytes out rest : List ℕ) : Type 0 where
  pub packets : List Packet
  pub front : List ℕ
  pub parts : bytes ≡ front ++ rest
  pub spelled : AreSpelled packets front
  pub text : out ≡ lines packets
  pub only : (ps : List Packet) → AreSpelled ps bytes → (qs : List Packet) × AreSpelled qs rest

pub begins : (bytes : List ℕ) → Shows bytes [] bytes
begins bytes = record { packets = []; front = []; parts = refl; spelled = refl; text = refl; only = λ ps s. (ps, s) }

spelled_more : (ps : List Packet) (p : Packet) (front text : List ℕ) → AreSpelled ps front → IsPacket p text → AreSpelled (ps ++ p ∷ []) (front ++ text)
spelled_more [] p front text s is = (text, [], (rw s (sym (append-nil text))), is, refl)
spelled_more (q ∷ ps) p front text s is = (s.0, s.1 ++ text, ap (λ (l : List ℕ). l ++ text) s.2 ∙ append_assoc s.0 s.1 text, s.3, spelled_more ps p s.1 text s.4 is)

lines_more : (ps : List Packet) (p : Packet) → lines (ps ++ p ∷ []) ≡ lines ps ++ (packet_line p ++ 10 ∷ [])
lines_more [] p = append-nil (packet_line p ++ 10 ∷ [])
lines_more (q ∷ ps) p = ap (λ (l : List ℕ). (packet_line q ++ 10 ∷ []) ++ l) (lines_more ps p) ∙ sym (append_assoc (packet_line q ++ 10 ∷ []) (lines ps) (packet_line p ++ 10 ∷ []))

-- what a decoded packet says of packets that spell the rest
abbrev pub Again : List ℕ → Packet → ℕ → Type 0
Again rest p n = (q : Packet) (text more : List ℕ) → IsPacket q text → rest ≡ text ++ more → ◌≡◌ {A = Packet × ℕ} (p, n) (q, length text)

tail_of : (rest : List ℕ) (p : Packet) (n : ℕ) → 0 < length rest → Again rest p n → (qs : List Packet) → AreSpelled qs rest → (rs : List Packet) × AreSpelled rs (drop n rest)
tail_of rest p n some again [] s = absurd (omega (arith, ap length s))
tail_of rest p n some again (q ∷ qs) s =
    let same : n ≡ length s.0 = ap (λ (x : Packet × ℕ). x.1) (again q s.0 s.1 s.3 s.2) in
    let cut : drop n rest ≡ s.1 = ap (drop n) s.2 ∙ drop_at s.0 s.1 n (sym same) in
    (qs, subst (AreSpelled qs) (sym cut) s.4)

pub shows_more : (bytes out rest out' : List ℕ) (p : Packet) (n : ℕ) → Shows bytes out rest → 0 < length rest → IsFirst IsPacket rest p n → Again rest p n → out' ≡ out ++ (packet_line p ++ 10 ∷ [])
    → Shows bytes out' (drop n rest)
shows_more bytes out rest out' p n s some first again put = record {
  packets = s.packets ++ p ∷ [];
  front = s.front ++ take n rest;
  parts = s.parts ∙ ap (λ (l : List ℕ). s.front ++ l) (sym (take-append-drop n rest)) ∙ sym (append_assoc s.front (take n rest) (drop n rest));
  spelled = spelled_more s.packets p s.front (take n rest) s.spelled first.1;
  text = put ∙ ap (λ (l : List ℕ). l ++ (packet_line p ++ 10 ∷ [])) s.text ∙ sym (lines_more s.packets p);
  only = λ ps t. let q = s.only ps t in tail_of rest p n some again q.0 q.1;
}

pub shown : (bytes out rest : List ℕ) → Shows bytes out rest → rest ≡ [] → IsShown bytes out
shown bytes out rest s none = record {
  packets = s.packets;
  spelled = subst (AreSpelled s.packets) (sym (s.parts ∙ ap (λ (l : List ℕ). s.front ++ l) none ∙ append-nil s.front)) s.spelled;
  is_text = s.text;
}

-- no spelling is empty
some_of : (p : Packet) (text : List ℕ) → IsPacket p text → 0 < length text
some_of (Packet.Message to ep grant message) text is = omega (arith, ap length is.1)
some_of (Packet.Credit id to grant) text is = omega (arith, ap length is.1)
some_of (Packet.Read id grant place buffer) text is = omega (arith, ap length is.1)
some_of (Packet.Write id grant place payload) text is = omega (arith, ap length is.1)
some_of (Packet.Answer id answer) text is = omega (arith, ap length is.1)
some_of (Packet.Install id to ep fresh) text is = omega (arith, ap length is.1)
some_of (Packet.Close id to ep grant) text is = omega (arith, ap length is.1)

pub takes_some : (rest : List ℕ) (p : Packet) (n : ℕ) → IsFirst IsPacket rest p n → 0 < n
takes_some rest p zero first = absurd (omega (arith, some_of p (take 0 rest) first.1))
takes_some rest p (suc n) first = omega arith

none_read : (bytes rest : List ℕ) (e : WireRefusal) → TakesNone e → 0 < length rest → ((ps : List Packet) → AreSpelled ps bytes → (qs : List Packet) × AreSpelled qs rest)
    → ((q : Packet) (text more : List ℕ) → IsPacket q text → rest ≡ text ++ more → ⊥) → AreNoPackets bytes
none_read bytes rest e named some only never ps s = go (only ps s).0 (only ps s).1
  where
    go : (qs : List Packet) → AreSpelled qs rest → ⊥
    go [] t = omega (arith, ap length t)
    go (q ∷ qs) t = never q t.0 t.1 t.3 t.2

-- what a refused decoding says of packets that spell the rest
abbrev pub Never : List ℕ → WireRefusal → Type 0
Never rest e = (q : Packet) (text more : List ℕ) → IsPacket q text → rest ≡ text ++ more → IsRead {X = Packet × ℕ} (Err e) (q, length text)

refused : (bytes out rest : List ℕ) (before : ℕ) (e : WireRefusal) → Shows bytes out rest → 0 < length rest → before ≡ length bytes - length rest → TakesNone e
    → Refuses IsPacket packet_part rest e → ((q : Packet) (text more : List ℕ) → IsPacket q text → rest ≡ text ++ more → ⊥) → IsRefusedAfter bytes before e
refused bytes out rest before e s some place named refuses none = record {
  packets = s.packets;
  front = s.front;
  rest = rest;
  parts = s.parts;
  spelled = s.spelled;
  place = omega (arith, ap length s.parts, length-append s.front rest);
  some = some;
  none = none;
  refuses = refuses;
  named = named;
}

pub why : (bytes out rest : List ℕ) (before : ℕ) (e : WireRefusal) → Shows bytes out rest → 0 < length rest → before ≡ length bytes - length rest
    → Refuses IsPacket packet_part rest e → Never rest e → IsWhy bytes (refused_after before e)
why bytes out rest before WireRefusal.NoMemory s some place refuses never = tt
why bytes out rest before (WireRefusal.Short at) s some place refuses never =
    (none_read bytes rest (WireRefusal.Short at) (λ e. cc) some s.only never, refused bytes out rest before (WireRefusal.Short at) s some place (λ e. cc) refuses never)
why bytes out rest before (WireRefusal.BadKind at) s some place refuses never =
    (none_read bytes rest (WireRefusal.BadKind at) (λ e. cc) some s.only never, refused bytes out rest before (WireRefusal.BadKind at) s some place (λ e. cc) refuses never)
why bytes out rest before (WireRefusal.BadFlags at) s some place refuses never =
    (none_read bytes rest (WireRefusal.BadFlags at) (λ e. cc) some s.only never, refused bytes out rest before (WireRefusal.BadFlags at) s some place (λ e. cc) refuses never)
why bytes out rest before (WireRefusal.BadReserved at) s some place refuses never =
    (none_read bytes rest (WireRefusal.BadReserved at) (λ e. cc) some s.only never, refused bytes out rest before (WireRefusal.BadReserved at) s some place (λ e. cc) refuses never)
why bytes out rest before (WireRefusal.BadField at) s some place refuses never =
    (none_read bytes rest (WireRefusal.BadField at) (λ e. cc) some s.only never, refused bytes out rest before (WireRefusal.BadField at) s some place (λ e. cc) refuses never)

-- the refused byte is one of those behind the packets, or their end
place_small : (rest : List ℕ) (e : WireRefusal) → Refuses IsPacket packet_part rest e → place_of e ≤ length rest
place_small rest WireRefusal.NoMemory r = omega arith
place_small rest (WireRefusal.Short at) r = omega (arith, r.0)
place_small rest (WireRefusal.BadKind at) r = omega (arith, r.0.0)
place_small rest (WireRefusal.BadFlags at) r = omega (arith, r.0.0)
place_small rest (WireRefusal.BadReserved at) r = omega (arith, r.0.0)
place_small rest (WireRefusal.BadField at) r = omega (arith, r.0.0)

pub place_within : (bytes : List ℕ) (before : ℕ) (e : WireRefusal) → IsRefusedAfter bytes before e → before + place_of e ≤ length bytes
place_within bytes before e r = omega (arith, place_small r.rest e r.refuses, r.place, ap length r.parts, length-append r.front r.rest)

pub next : (bytes out rest out' : List ℕ) (n : ℕ) → Shows bytes out rest → 0 < length rest → IsNext out out' rest n → Shows bytes out' (take (length rest - n) (drop n rest))
next bytes out rest out' n s some x =
    subst (Shows bytes out') (sym (take_all (length rest - n) (drop n rest) (omega (arith, length-drop n rest)))) (shows_more bytes out rest out' x.packet n s some x.first x.again x.put)

pub next_within : (out rest out' : List ℕ) (n : ℕ) → IsNext out out' rest n → (0 < n) × (n ≤ length rest)
next_within out rest out' n x = (takes_some rest x.packet n x.first, x.first.0)

-- the line of bytes that aren't shown is an answer to them
pub answers : (bytes : List ℕ) (e : ShowRefusal) → IsWhy bytes e → (status : ℕ) (text : List ℕ) → IsRefusalLine e status text → IsShowAnswer bytes status text
answers bytes ShowRefusal.NoMemory w status text is = absurd is
answers bytes (ShowRefusal.Bad before refusal) w status text is = inr (is.0, w.0, record { before = before; refusal = refusal; refused = w.1; is_text = is.1 })
