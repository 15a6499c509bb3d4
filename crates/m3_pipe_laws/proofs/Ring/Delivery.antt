-- The ring brings the bytes of the data in order.
use Rattle.std.proofs.Common.{◌≡◌, ℕ, zero, suc, ◌+◌, ◌*◌, ◌%◌, ◌<◌, ◌≤◌, List, [], ◌++◌, length, take, drop, refl, sym, subst, ◌∙◌, ap, arith, inl, inr, length-take, append_assoc}
use Rattle.std.specs.Prelude.{◌⊎◌}
use Rattle.std.proofs.lemmas.List.{append-nil, take-append-drop}
use Rattle.std.proofs.Math.Nat.{suc-mul}
use Rattle.std.proofs.Math.Seq.{take-add}
use Rattle.m3_base.specs.Ideal.Landing.{bytes_at, written_at}
use Rattle.m3_pipe_laws.specs.Protocol.{Writer, slot, piece}
use Rattle.m3_pipe_laws.specs.Pipe.{Disjoint}
use Rattle.m3_base.specs.Lists.Prefixes.{IsPrefix}
use Rattle.m3_pipe_laws.specs.Ring.{Line, Moves, Write_lands, Notice_lands, Read_lands, Reply_lands, Comes_back, Other_write, Reaches, Here, Then, place_of, pieces, LineOk}
use Rattle.m3_pipe_laws.specs.Laws.{RingDelivers, RingsDeliver}
use Rattle.m3_pipe_laws.proofs.Ring.Memory.{bytes_before, bytes_after, bytes_same, no_shorter, other_slot, apart_slots, slot_inside}

-- ---- chunks

pub piece_most : (chunk : ℕ) (bytes : List ℕ) (i : ℕ) → length (piece chunk bytes i) ≤ chunk
piece_most chunk bytes i = let e = length-take chunk (drop (i * chunk) bytes) in omega (arith, e)

pub pieces_take : (chunk : ℕ) (bytes : List ℕ) (n : ℕ) → pieces chunk bytes n ≡ take (n * chunk) bytes
pieces_take chunk bytes zero = let e : 0 * chunk ≡ 0 = omega arith in rw e refl
pieces_take chunk bytes (suc n) =
    ap (λ z. z ++ piece chunk bytes n) (pieces_take chunk bytes n) ∙ sym (take-add (n * chunk) chunk bytes) ∙ ap (λ z. take z bytes) (sym (suc-mul n chunk))

pub pieces_data : (chunk : ℕ) (bytes : List ℕ) (n : ℕ) → IsPrefix (pieces chunk bytes n) bytes
pieces_data chunk bytes n = (drop (n * chunk) bytes, ap (λ z. z ++ drop (n * chunk) bytes) (pieces_take chunk bytes n) ∙ take-append-drop (n * chunk) bytes)

last_or_not : (n m : ℕ) → n ≤ suc m → (n ≡ suc m) ⊎ (n ≤ m)
last_or_not zero m h = inr (omega arith)
last_or_not (suc n) zero h = inl (omega arith)
last_or_not (suc n) (suc m) h = elim (last_or_not n m (omega arith)) [ inl e ↦ inl (ap suc e) | inr k ↦ inr (omega arith) ]

pub pieces_more : (chunk : ℕ) (bytes : List ℕ) (n m : ℕ) → n ≤ m → IsPrefix (pieces chunk bytes n) (pieces chunk bytes m)
pieces_more chunk bytes n zero h = let e : n ≡ 0 = omega arith in subst (λ z. IsPrefix (pieces chunk bytes z) []) (sym e) ([], refl)
pieces_more chunk bytes n (suc m) h = by_last (last_or_not n m h) (λ k. pieces_more chunk bytes n m k)
  where
    by_last : (n ≡ suc m) ⊎ (n ≤ m) → (n ≤ m → IsPrefix (pieces chunk bytes n) (pieces chunk bytes m)) → IsPrefix (pieces chunk bytes n) (pieces chunk bytes (suc m))
    by_last (inl e) ih = subst (λ z. IsPrefix (pieces chunk bytes z) (pieces chunk bytes (suc m))) (sym e) ([], append-nil (pieces chunk bytes (suc m)))
    by_last (inr k) ih = let p = ih k in (p.0 ++ piece chunk bytes m, sym (append_assoc (pieces chunk bytes n) p.0 (piece chunk bytes m)) ∙ ap (λ z. z ++ piece chunk bytes m) p.1)

-- ---- each move keeps the invariant

module _ (w : Writer) (start : ℕ) (l : Line) (ok : LineOk w start l) where
  -- two chunks in the ring
  between : (i : ℕ) → l.read ≤ i → i < l.written → l.written < l.back + w.ring → bytes_at (place_of w start i) (length (piece w.chunk w.bytes i)) (written_at (place_of w start l.written) (piece w.chunk w.bytes l.written) l.memory) ≡ bytes_at (place_of w start i) (length (piece w.chunk w.bytes i)) l.memory
  between i a b room =
      let one : 1 ≤ w.ring = omega (arith, ok.back_most, ok.replied_most) in
      let near : l.written < i + w.ring = omega (arith, ok.back_most, ok.replied_most) in
      let ne = other_slot w.ring i l.written one b near in
      let in_i = slot_inside w.ring w.chunk i one in
      let in_w = slot_inside w.ring w.chunk l.written one in
      let most_i = piece_most w.chunk w.bytes i in
      let most_w = piece_most w.chunk w.bytes l.written in
      by_side in_i in_w most_i most_w (apart_slots w.chunk (i % w.ring) (l.written % w.ring) ne)
    where
      by_side : slot w.ring w.chunk i + w.chunk ≤ w.ring * w.chunk → slot w.ring w.chunk l.written + w.chunk ≤ w.ring * w.chunk → length (piece w.chunk w.bytes i) ≤ w.chunk → length (piece w.chunk w.bytes l.written) ≤ w.chunk → Disjoint (slot w.ring w.chunk i) w.chunk (slot w.ring w.chunk l.written) w.chunk → bytes_at (place_of w start i) (length (piece w.chunk w.bytes i)) (written_at (place_of w start l.written) (piece w.chunk w.bytes l.written) l.memory) ≡ bytes_at (place_of w start i) (length (piece w.chunk w.bytes i)) l.memory
      by_side in_i in_w most_i most_w (inl h) = bytes_before (place_of w start i) (length (piece w.chunk w.bytes i)) (place_of w start l.written) (piece w.chunk w.bytes l.written) l.memory (omega arith) (omega (arith, ok.inside))
      by_side in_i in_w most_i most_w (inr h) = bytes_after (place_of w start i) (length (piece w.chunk w.bytes i)) (place_of w start l.written) (piece w.chunk w.bytes l.written) l.memory (omega arith) (omega (arith, ok.inside))

  pub write_lands : l.written ≡ l.noticed → l.written < l.back + w.ring → LineOk w start (record l { memory = written_at (place_of w start l.written) (piece w.chunk w.bytes l.written) l.memory; written = l.written + 1 })
  write_lands e room =
      let one : 1 ≤ w.ring = omega (arith, ok.back_most, ok.replied_most, ok.read_most, ok.noticed_most) in
      let in_w = slot_inside w.ring w.chunk l.written one in
      let most_w = piece_most w.chunk w.bytes l.written in
      record {
        inside = (let k = no_shorter (place_of w start l.written) (piece w.chunk w.bytes l.written) l.memory in omega (arith, k, ok.inside));
        back_most = ok.back_most;
        replied_most = ok.replied_most;
        read_most = ok.read_most;
        noticed_most = omega (arith, ok.noticed_most);
        window = omega arith;
        content = λ i a b. by_last i a (last_or_not (suc i) l.written (omega arith)) in_w most_w;
        got = ok.got;
      }
    where
      by_last : (i : ℕ) → l.read ≤ i → (suc i ≡ suc l.written) ⊎ (suc i ≤ l.written) → slot w.ring w.chunk l.written + w.chunk ≤ w.ring * w.chunk → length (piece w.chunk w.bytes l.written) ≤ w.chunk → bytes_at (place_of w start i) (length (piece w.chunk w.bytes i)) (written_at (place_of w start l.written) (piece w.chunk w.bytes l.written) l.memory) ≡ piece w.chunk w.bytes i
      by_last i a (inr k) in_w most_w = between i a (omega arith) room ∙ ok.content i a (omega arith)
      by_last i a (inl k) in_w most_w =
          let same : l.written ≡ i = omega arith in
          subst (λ z. bytes_at (place_of w start z) (length (piece w.chunk w.bytes z)) (written_at (place_of w start l.written) (piece w.chunk w.bytes l.written) l.memory) ≡ piece w.chunk w.bytes z) same (bytes_same (place_of w start l.written) (piece w.chunk w.bytes l.written) l.memory (omega (arith, ok.inside)))

  pub notice_lands : l.noticed < l.written → LineOk w start (record l { noticed = l.noticed + 1 })
  notice_lands h = record { inside = ok.inside; back_most = ok.back_most; replied_most = ok.replied_most; read_most = omega (arith, ok.read_most); noticed_most = omega arith; window = ok.window; content = ok.content; got = ok.got }

  pub read_lands : l.read < l.noticed → LineOk w start (record l { read = l.read + 1; got = l.got ++ bytes_at (place_of w start l.read) (length (piece w.chunk w.bytes l.read)) l.memory })
  read_lands h =
      let next : suc l.read ≡ l.read + 1 = omega arith in
      let came = ok.content l.read (omega arith) (omega (arith, ok.noticed_most)) in
      record {
        inside = ok.inside;
        back_most = ok.back_most;
        replied_most = omega (arith, ok.replied_most);
        read_most = omega arith;
        noticed_most = ok.noticed_most;
        window = ok.window;
        content = λ i a b. ok.content i (omega arith) b;
        got = ap (λ z. l.got ++ z) came ∙ ap (λ z. z ++ piece w.chunk w.bytes l.read) ok.got ∙ ap (pieces w.chunk w.bytes) next;
      }

  pub reply_lands : l.replied < l.read → LineOk w start (record l { replied = l.replied + 1 })
  reply_lands h = record { inside = ok.inside; back_most = omega (arith, ok.back_most); replied_most = omega arith; read_most = ok.read_most; noticed_most = ok.noticed_most; window = ok.window; content = ok.content; got = ok.got }

  pub comes_back : l.back < l.replied → LineOk w start (record l { back = l.back + 1 })
  comes_back h = record { inside = ok.inside; back_most = omega arith; replied_most = ok.replied_most; read_most = ok.read_most; noticed_most = ok.noticed_most; window = omega (arith, ok.window); content = ok.content; got = ok.got }

  -- a write elsewhere
  passed : (place : ℕ) (bytes : List ℕ) → Disjoint start (w.ring * w.chunk) place (length bytes) → (i : ℕ) → l.read ≤ i → i < l.written → slot w.ring w.chunk i + w.chunk ≤ w.ring * w.chunk → length (piece w.chunk w.bytes i) ≤ w.chunk → bytes_at (place_of w start i) (length (piece w.chunk w.bytes i)) (written_at place bytes l.memory) ≡ bytes_at (place_of w start i) (length (piece w.chunk w.bytes i)) l.memory
  passed place bytes (inl d) i a b in_i most_i = bytes_before (place_of w start i) (length (piece w.chunk w.bytes i)) place bytes l.memory (omega arith) (omega (arith, ok.inside))
  passed place bytes (inr d) i a b in_i most_i = bytes_after (place_of w start i) (length (piece w.chunk w.bytes i)) place bytes l.memory (omega arith) (omega (arith, ok.inside))

  pub other_write : (place : ℕ) (bytes : List ℕ) → Disjoint start (w.ring * w.chunk) place (length bytes) → LineOk w start (record l { memory = written_at place bytes l.memory })
  other_write place bytes d = record {
    inside = (let k = no_shorter place bytes l.memory in omega (arith, k, ok.inside));
    back_most = ok.back_most;
    replied_most = ok.replied_most;
    read_most = ok.read_most;
    noticed_most = ok.noticed_most;
    window = ok.window;
    content = λ i a b.
        let one : 1 ≤ w.ring = omega (arith, ok.back_most, ok.replied_most, ok.window) in
        passed place bytes d i a b (slot_inside w.ring w.chunk i one) (piece_most w.chunk w.bytes i) ∙ ok.content i a b;
    got = ok.got;
  }

pub kept : (w : Writer) (start : ℕ) {l m : Line} → Moves w start l m → LineOk w start l → LineOk w start m
kept w start (Write_lands l e p room) ok = write_lands w start l ok e room
kept w start (Notice_lands l h) ok = notice_lands w start l ok h
kept w start (Read_lands l h) ok = read_lands w start l ok h
kept w start (Reply_lands l h) ok = reply_lands w start l ok h
kept w start (Comes_back l h) ok = comes_back w start l ok h
kept w start (Other_write l place bytes d) ok = other_write w start l ok place bytes d

pub reached : (w : Writer) (start : ℕ) {l m : Line} → Reaches w start l m → LineOk w start l → LineOk w start m
reached w start (Here l) ok = ok
reached w start (Then l m n r t) ok = kept w start t (reached w start r ok)

pub line_brings : (w : Writer) (start : ℕ) (l : Line) → LineOk w start l → RingDelivers w l
line_brings w start l ok = record {
  read = subst (λ z. IsPrefix z (pieces w.chunk w.bytes l.written)) (sym ok.got) (pieces_more w.chunk w.bytes l.read l.written (omega (arith, ok.read_most, ok.noticed_most)));
  written = pieces_data w.chunk w.bytes l.written;
}

pub rings_bring : RingsDeliver
rings_bring w start memory l h r =
    line_brings w start l (reached w start r (record { inside = h; back_most = omega arith; replied_most = omega arith; read_most = omega arith; noticed_most = omega arith; window = omega arith; content = λ i a b. absurd (omega arith); got = refl }))
