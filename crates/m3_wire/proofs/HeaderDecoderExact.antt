-- The readers of headers and packets are exact.
use Rattle.std.proofs.Common.{◌≡◌, ℕ, ◌^◌, ◌<◌, ◌≤◌, Bool, true, false, cond, eqb, leb, List, [], ◌∷◌, ◌++◌, length, Result, refl, sym, ap, ◌∙◌, arith, lit<, append_assoc}
use Rattle.std.proofs.lemmas.Bool.{leb-true, le-leb, and_parts as both}
use Rattle.byteorder.specs.Endian.{little_bytes}
use Rattle.m3_base.specs.declared.ids.FlightId.{FlightId}
use Rattle.m3_base.specs.declared.message.Header.{Header}
use Rattle.m3_base.specs.Limits.{is_within, Within}
use Rattle.m3_wire.specs.ByteReader.{Fault, byte, pair, mapped}
use Rattle.m3_wire.specs.Headers.{IsAct, IsGrant, IsCount, IsLabel, FitsHeader, header_bytes, is_reply_ep, least_reply, most_reply}
use Rattle.m3_wire.specs.Decoders.{small, act, ep, grant, count, label, act_id, kernel_id, flight_of, kernels, HeaderFields, header_of, header, second, length_prefixed}
use Rattle.m3_wire.specs.Packets.{IsOfAct, IsOfKernel, IsEp, id_bytes, counted_bytes}
use Rattle.m3_wire.proofs.ExactDecoder.{Exact, pair_sound, mapped_sound}
use Rattle.m3_wire.proofs.BytePrimitives.{bytes_exact, byte_exact, itself}
use Rattle.m3_wire.proofs.NumberDecoderExact.{number_exact}

-- one byte as it stands
abbrev pub cell : ℕ → List ℕ
cell x = itself x ∷ []

within_passes : (least most c : ℕ) → Within least most c → is_within least most c ≡ true
within_passes least most c g = rw (le-leb _ _ g.0, le-leb _ _ g.1) refl

passes_within : (least most c : ℕ) → is_within least most c ≡ true → Within least most c
passes_within least most c e = let b = both (leb least c) (leb c most) e in (leb-true _ _ b.0, leb-true _ _ b.1)

pub small_exact : (least most : ℕ) → least ≤ most → Exact (small least most) (Within least most) cell
small_exact least most le = byte_exact (is_within least most) (Within least most) (within_passes least most) (passes_within least most) least (omega arith, le)

pub act_exact : Exact act IsAct cell
act_exact = small_exact 0 63 (omega arith)

pub ep_exact : Exact ep IsEp cell
ep_exact = small_exact 0 15 (omega arith)

pub grant_exact : Exact grant IsGrant (little_bytes 4)
grant_exact = number_exact 4 1 4096 (omega arith) (omega arith) (lit< tt)

pub count_exact : Exact count IsCount (little_bytes 4)
count_exact = number_exact 4 1 4294967295 (omega arith) (omega arith) (lit< tt)

pub label_exact : Exact label IsLabel (little_bytes 8)
label_exact = number_exact 8 0 18446744073709551615 (omega arith) (omega arith) (lit< tt)

-- one field after another, which may depend on it
pub after : {X Y : Type 0} {reader : List ℕ → Result (X × List ℕ) Fault} {Good : X → Type 0} {spell : X → List ℕ}
    {next : X → List ℕ → Result (Y × List ℕ) Fault} {Good' : X → Y → Type 0} {spell' : X → Y → List ℕ}
    → Exact reader Good spell → ((x : X) → Good x → Exact (next x) (Good' x) (spell' x))
    → Exact (pair reader next) (λ z. Good z.0 × Good' z.0 z.1) (λ z. spell z.0 ++ spell' z.0 z.1)
unfolding pair
after {reader = reader} {Good = Good} {spell = spell} {next = next} {Good' = Good'} {spell' = spell'} one two = record {
  sound = pair_sound reader Good spell next Good' spell' one (λ x g. (two x g).sound);
  again = λ z rest g. rw (append_assoc (spell z.0) (spell' z.0 z.1) rest, one.again z.0 (spell' z.0 z.1 ++ rest) g.0, (two z.0 g.0).again z.1 rest g.1) refl;
}

-- a value made of another, from which it can be had again
pub made : {X Y : Type 0} (f : X → Y) (g : Y → X) {reader : List ℕ → Result (X × List ℕ) Fault} {Good : X → Type 0} {spell : X → List ℕ}
    {Good' : Y → Type 0} {spell' : Y → List ℕ} → ((x : X) → Good x → Good' (f x)) → ((x : X) → Good x → spell' (f x) ≡ spell x)
    → ((y : Y) → Good' y → Good (g y)) → ((y : Y) → Good' y → f (g y) ≡ y) → Exact reader Good spell → Exact (mapped f reader) Good' spell'
unfolding mapped
made f g {reader = reader} {Good = Good} {spell = spell} {Good' = Good'} {spell' = spell'} fits same back turn exact = record {
  sound = mapped_sound f reader Good spell Good' spell' fits same exact.sound;
  again = λ y rest h.
      let e : spell' y ≡ spell (g y) = ap spell' (sym (turn y h)) ∙ same (g y) (back y h) in
      rw (e, exact.again (g y) rest (back y h), turn y h) refl;
}

abbrev id_pair : FlightId → ℕ × ℕ
id_pair id = (id.issuer, id.number)

pub act_id_exact : Exact act_id IsOfAct id_bytes
act_id_exact = made flight_of id_pair (λ z g. g) (λ z g. refl) (λ id g. g) (λ id g. refl) (after act_exact (λ x g. count_exact))

abbrev number_of : FlightId → ℕ
number_of id = id.number

abbrev pub kernel_bytes : FlightId → List ℕ
kernel_bytes id = little_bytes 4 id.number

kernel_same : (id : FlightId) → IsOfKernel id → kernels id.number ≡ id
kernel_same id g = rw (sym g.0) refl

pub kernel_id_exact : Exact kernel_id IsOfKernel kernel_bytes
kernel_id_exact = made kernels number_of (λ n g. (refl, g)) (λ n g. refl) (λ id g. g.1) (λ id g. kernel_same id g) count_exact

-- a reply endpoint is always none, or may be
abbrev IsReplyEp : ℕ → ℕ → Type 0
IsReplyEp flags e = is_reply_ep flags e ≡ true

none_is : (flags : ℕ) → is_reply_ep flags 255 ≡ true
none_is flags = elim (eqb flags 1) as (λ b. cond b true true ≡ true) [ true ↦ refl | false ↦ refl ]

reply_ep_exact : (flags : ℕ) → Exact (byte (is_reply_ep flags)) (IsReplyEp flags) cell
reply_ep_exact flags = byte_exact (is_reply_ep flags) (IsReplyEp flags) (λ c g. g) (λ c g. g) 255 (none_is flags)

ranges : (e : ℕ) → (least_reply e ≤ 1) × (least_reply e ≤ most_reply e) × (most_reply e < 256 ^ 4)
ranges e = go (eqb e 255)
  where
    go : (b : Bool) → (cond b 0 1 ≤ 1) × (cond b 0 1 ≤ cond b 0 4096) × (cond b 0 4096 < 256 ^ 4)
    go true = (omega arith, omega arith, lit< tt)
    go false = (omega arith, omega arith, lit< tt)

abbrev header_tuple : Header → HeaderFields
header_tuple h = (h.flags, (h.reply_ep, (h.sender, (h.lane, (h.length, (0, (h.send, (h.reply, (h.number, h.label)))))))))

none_of : (n : ℕ) → Within 0 0 n → n ≡ 0
none_of n g = omega (arith, g.1)

pub header_exact : Exact header FitsHeader header_bytes
header_exact = made header_of header_tuple
    (λ z g. record {
      flags = g.0;
      reply_ep = g.1.0;
      sender = g.1.1.0;
      lane = g.1.1.1.0;
      len = g.1.1.1.1.0;
      send = g.1.1.1.1.1.1.0;
      reply = g.1.1.1.1.1.1.1.0;
      count = g.1.1.1.1.1.1.1.1.0;
      label = g.1.1.1.1.1.1.1.1.1;
    })
    (λ z g. rw (none_of z.1.1.1.1.1.0 g.1.1.1.1.1.0) refl)
    (λ h g. (g.flags, (g.reply_ep, (g.sender, (g.lane, (g.len, ((omega arith, omega arith), (g.send, (g.reply, (g.count, g.label))))))))))
    (λ h g. refl)
    (after (small_exact 0 1 (omega arith)) (λ flags g0.
    after (reply_ep_exact flags) (λ reply_ep g1.
    after act_exact (λ sender g2.
    after (small_exact 0 0 (omega arith)) (λ lane g3.
    after (number_exact 2 0 512 (omega arith) (omega arith) (lit< tt)) (λ len g4.
    after (number_exact 2 0 0 (omega arith) (omega arith) (lit< tt)) (λ reserved g5.
    after grant_exact (λ send g6.
    after (number_exact 4 (least_reply reply_ep) (most_reply reply_ep) (ranges reply_ep).0 (ranges reply_ep).1 (ranges reply_ep).2) (λ reply g7.
    after count_exact (λ n g8. label_exact))))))))))

abbrev with_length : List ℕ → ℕ × List ℕ
with_length bytes = (length bytes, bytes)

pub counted_exact : (most : ℕ) → most < 65536 → Exact (length_prefixed most) (λ bytes. Within 0 most (length bytes)) counted_bytes
counted_exact most fits = made second with_length
    (λ z g. rw g.1 g.0) (λ z g. rw g.1 refl) (λ bytes g. (g, refl)) (λ bytes g. refl)
    (after (number_exact 2 0 most (omega arith) (omega arith) (omega arith)) (λ n g. bytes_exact n))
