-- What the changes of flying commands and fetched messages leave of their numbers, their marks and their messages.
use Rattle.std.proofs.Common.{◌≡◌, ◌≢◌, ℕ, ◌+◌, ◌<◌, ◌≤◌, Bool, true, false, List, [], ◌∷◌, ◌++◌, Some, None, refl, sym, ◌∙◌, ap, arith}
use Rattle.std.specs.Prelude.{◌==◌, if◌then◌else◌}
use Rattle.std.specs.Option.{option_map}
use Rattle.std.proofs.lemmas.Bool.Decides.{nat_tests}
use Rattle.m3_base.specs.Lists.Counting.{one, how_many}
use Rattle.m3_base.specs.declared.message.Message.{Message}
use Rattle.m3_base.specs.Ideal.Context.{Flying, Fetched}
use Rattle.m3_base.specs.Ideal.ReceiveRecord.{fetched_at, without_token, with_mark, has_mark}
use Rattle.m3_base.specs.Ideal.Landing.{flying_at, without_flying}
use Rattle.m3_laws.specs.CommandFlights.{Ascends, number_in, token_of, message_of, IsReplyTo}

-- ---- keys that ascend

module _ {X : Type 0} (key : X → ℕ) where
  pub ascends-push : (low : ℕ) (xs : List X) (x : X) → Ascends key low xs (key x) → Ascends key low (xs ++ x ∷ []) (key x + 1)
  ascends-push low [] x h = (h, omega arith)
  ascends-push low (y ∷ xs) x h = (h.0, ascends-push (key y + 1) xs x h.1)

  pub ascends-lower : (k low high : ℕ) (xs : List X) → k ≤ low → Ascends key low xs high → Ascends key k xs high
  ascends-lower k low high [] l h = omega (arith, l, h)
  ascends-lower k low high (x ∷ xs) l h = (let least = h.0 in omega (arith, l, least), h.1)

  pub ascends-higher : (low high k : ℕ) (xs : List X) → high ≤ k → Ascends key low xs high → Ascends key low xs k
  ascends-higher low high k [] l h = omega (arith, l, h)
  ascends-higher low high k (x ∷ xs) l h = (h.0, ascends-higher (key x + 1) high k xs l h.1)

  pub ascends-within : (low high : ℕ) (xs : List X) → Ascends key low xs high → low ≤ high
  ascends-within low high [] h = h
  ascends-within low high (x ∷ xs) h = let least = h.0 in let rest = ascends-within (key x + 1) high xs h.1 in omega (arith, least, rest)

-- ---- fetched messages

pub tokens-without : (t low high : ℕ) (fs : List Fetched) → Ascends token_of low fs high → Ascends token_of low (without_token t fs) high
tokens-without t low high [] h = h
tokens-without t low high (f ∷ fs) h = by_token (f.token == t) (tokens-without t (f.token + 1) high fs h.1)
  where
    by_token : (b : Bool) → Ascends token_of (f.token + 1) (without_token t fs) high → Ascends token_of low (if b then fs else f ∷ without_token t fs) high
    by_token true ih = let least = h.0 in ascends-lower token_of low (f.token + 1) high fs (omega (arith, least)) h.1
    by_token false ih = (h.0, ih)

pub tokens-mark : (b : Bool) (t low high : ℕ) (fs : List Fetched) → Ascends token_of low fs high → Ascends token_of low (with_mark b t fs) high
tokens-mark b t low high [] h = h
tokens-mark b t low high (f ∷ fs) h = by_token (f.token == t) (tokens-mark b t (f.token + 1) high fs h.1)
  where
    by_token : (c : Bool) → Ascends token_of (f.token + 1) (with_mark b t fs) high → Ascends token_of low (if c then record f { marked = b } ∷ fs else f ∷ with_mark b t fs) high
    by_token true ih = h
    by_token false ih = (h.0, ih)

pub fetched_at-below : (t low high : ℕ) (fs : List Fetched) → t < low → Ascends token_of low fs high → fetched_at t fs ≡ None
fetched_at-below t low high [] l h = refl
fetched_at-below t low high (f ∷ fs) l h =
    let least = h.0 in
    let other : (f.token == t) ≡ false = grind (arith, nat_tests, l, least) in
    let later : fetched_at t fs ≡ None = fetched_at-below t (f.token + 1) high fs (omega (arith, l, least)) h.1 in
    grind (arith, other, later)

-- of two messages with one token the first would hide the second: so there are none
pub fetched_at-gone : (t low high : ℕ) (fs : List Fetched) → Ascends token_of low fs high → fetched_at t (without_token t fs) ≡ None
fetched_at-gone t low high [] h = refl
fetched_at-gone t low high (f ∷ fs) h = by_token (f.token == t) refl (fetched_at-gone t (f.token + 1) high fs h.1)
  where
    by_token : (b : Bool) → (f.token == t) ≡ b → fetched_at t (without_token t fs) ≡ None → fetched_at t (if b then fs else f ∷ without_token t fs) ≡ None
    by_token true w ih = let same : f.token ≡ t = grind (arith, nat_tests, w) in fetched_at-below t (f.token + 1) high fs (omega (arith, same)) h.1
    by_token false w ih = grind (arith, w, ih)

pub message_at-mark : (b : Bool) (t u : ℕ) (fs : List Fetched) → option_map message_of (fetched_at t (with_mark b u fs)) ≡ option_map message_of (fetched_at t fs)
message_at-mark b t u [] = refl
message_at-mark b t u (f ∷ fs) = grind (arith, nat_tests, message_at-mark b t u fs)

pub marked-mark : (b : Bool) (t : ℕ) (f : Fetched) (fs : List Fetched) → fetched_at t fs ≡ Some f → has_mark (fetched_at t (with_mark b t fs)) ≡ b
marked-mark b t f [] e = absurd (cc)
marked-mark b t f (x ∷ fs) e = by_token (x.token == t) refl (marked-mark b t f fs)
  where
    by_token : (c : Bool) → (x.token == t) ≡ c → (fetched_at t fs ≡ Some f → has_mark (fetched_at t (with_mark b t fs)) ≡ b) → has_mark (fetched_at t (if c then record x { marked = b } ∷ fs else x ∷ with_mark b t fs)) ≡ b
    by_token true w ih = grind (arith, w)
    by_token false w ih = grind (arith, w, e, ih)

pub marked-push : (t : ℕ) (f : Fetched) (fs : List Fetched) → f.marked ≡ false → has_mark (fetched_at t (fs ++ f ∷ [])) ≡ has_mark (fetched_at t fs)
marked-push t f [] h = by_token (f.token == t)
  where
    by_token : (b : Bool) → has_mark (if b then Some f else None) ≡ false
    by_token true = h
    by_token false = refl
marked-push t f (x ∷ fs) h = by_token (x.token == t) (marked-push t f fs h)
  where
    by_token : (b : Bool) → has_mark (fetched_at t (fs ++ f ∷ [])) ≡ has_mark (fetched_at t fs) → has_mark (if b then Some x else fetched_at t (fs ++ f ∷ [])) ≡ has_mark (if b then Some x else fetched_at t fs)
    by_token true ih = refl
    by_token false ih = ih

pub reply-push : (t : ℕ) (f : Fetched) (fs : List Fetched) (to ep h : ℕ) (m : Message) → IsReplyTo (option_map message_of (fetched_at t fs)) to ep h m → IsReplyTo (option_map message_of (fetched_at t (fs ++ f ∷ []))) to ep h m
reply-push t f [] to ep h m r = absurd r
reply-push t f (x ∷ fs) to ep h m r = by_token (x.token == t) (reply-push t f fs to ep h m) r
  where
    by_token : (b : Bool) → (IsReplyTo (option_map message_of (fetched_at t fs)) to ep h m → IsReplyTo (option_map message_of (fetched_at t (fs ++ f ∷ []))) to ep h m) → IsReplyTo (option_map message_of (if b then Some x else fetched_at t fs)) to ep h m → IsReplyTo (option_map message_of (if b then Some x else fetched_at t (fs ++ f ∷ []))) to ep h m
    by_token true ih r = r
    by_token false ih r = ih r

-- ---- flying commands

pub numbers-without : (n low high : ℕ) (fs : List Flying) → Ascends number_in low fs high → Ascends number_in low (without_flying n fs) high
numbers-without n low high [] h = h
numbers-without n low high (f ∷ fs) h = by_number (f.number == n) (numbers-without n (f.number + 1) high fs h.1)
  where
    by_number : (b : Bool) → Ascends number_in (f.number + 1) (without_flying n fs) high → Ascends number_in low (if b then fs else f ∷ without_flying n fs) high
    by_number true ih = let least = h.0 in ascends-lower number_in low (f.number + 1) high fs (omega (arith, least)) h.1
    by_number false ih = (h.0, ih)

flying_at-below : (n low high : ℕ) (fs : List Flying) → n < low → Ascends number_in low fs high → flying_at n fs ≡ None
flying_at-below n low high [] l h = refl
flying_at-below n low high (f ∷ fs) l h =
    let least = h.0 in
    let other : (f.number == n) ≡ false = grind (arith, nat_tests, l, least) in
    let later : flying_at n fs ≡ None = flying_at-below n (f.number + 1) high fs (omega (arith, l, least)) h.1 in
    grind (arith, other, later)

-- none flies from the next number on
pub flying_at-past : (n low high : ℕ) (fs : List Flying) → high ≤ n → Ascends number_in low fs high → flying_at n fs ≡ None
flying_at-past n low high [] l h = refl
flying_at-past n low high (f ∷ fs) l h =
    let within = ascends-within number_in (f.number + 1) high fs h.1 in
    let other : (f.number == n) ≡ false = grind (arith, nat_tests, l, within) in
    let later : flying_at n fs ≡ None = flying_at-past n (f.number + 1) high fs l h.1 in
    grind (arith, other, later)

pub flying_at-gone : (n low high : ℕ) (fs : List Flying) → Ascends number_in low fs high → flying_at n (without_flying n fs) ≡ None
flying_at-gone n low high [] h = refl
flying_at-gone n low high (f ∷ fs) h = by_number (f.number == n) refl (flying_at-gone n (f.number + 1) high fs h.1)
  where
    by_number : (b : Bool) → (f.number == n) ≡ b → flying_at n (without_flying n fs) ≡ None → flying_at n (if b then fs else f ∷ without_flying n fs) ≡ None
    by_number true w ih = let same : f.number ≡ n = grind (arith, nat_tests, w) in flying_at-below n (f.number + 1) high fs (omega (arith, same)) h.1
    by_number false w ih = grind (arith, w, ih)

pub flying_at-without : (n k : ℕ) (fs : List Flying) → n ≢ k → flying_at n (without_flying k fs) ≡ flying_at n fs
flying_at-without n k [] ne = refl
flying_at-without n k (f ∷ fs) ne = grind (arith, nat_tests, ne, flying_at-without n k fs)

pub flying_number : (n : ℕ) (f : Flying) (fs : List Flying) → flying_at n fs ≡ Some f → f.number ≡ n
flying_number n f [] e = absurd (cc)
flying_number n f (x ∷ fs) e = by_number (x.number == n) refl (flying_number n f fs)
  where
    by_number : (b : Bool) → (x.number == n) ≡ b → (flying_at n fs ≡ Some f → f.number ≡ n) → f.number ≡ n
    by_number true w ih = let same : x ≡ f = grind (arith, w, e) in let r : x.number ≡ n = grind (arith, nat_tests, w) in ap (λ z. z.number) (sym same) ∙ r
    by_number false w ih = ih (grind (arith, w, e))

-- one command less
pub how_many-without_flying : (p : Flying → Bool) (n : ℕ) (f : Flying) (fs : List Flying) → flying_at n fs ≡ Some f → how_many p (without_flying n fs) + one (p f) ≡ how_many p fs
how_many-without_flying p n f [] e = absurd (cc)
how_many-without_flying p n f (x ∷ fs) e = by_number (x.number == n) refl (how_many-without_flying p n f fs)
  where
    by_number : (b : Bool) → (x.number == n) ≡ b → (flying_at n fs ≡ Some f → how_many p (without_flying n fs) + one (p f) ≡ how_many p fs) → how_many p (if b then fs else x ∷ without_flying n fs) + one (p f) ≡ one (p x) + how_many p fs
    by_number true w ih = let same : x ≡ f = grind (arith, w, e) in let endpoint_same = ap (λ z. one (p z)) same in omega (arith, endpoint_same)
    by_number false w ih = let rest = ih (grind (arith, w, e)) in omega (arith, rest)

-- two commands for which a test holds are two
pub two_flying : (p : Flying → Bool) (n k : ℕ) (f g : Flying) (fs : List Flying) → flying_at n fs ≡ Some f → flying_at k fs ≡ Some g → k ≢ n → p f ≡ true → p g ≡ true → 2 ≤ how_many p fs
two_flying p n k f g fs e w ne pf pg =
    let one_less = how_many-without_flying p n f fs e in
    let other : flying_at k (without_flying n fs) ≡ Some g = flying_at-without k n fs ne ∙ w in
    let two_less = how_many-without_flying p k g (without_flying n fs) other in
    let x = ap one pf in
    let y = ap one pg in
    omega (arith, one_less, two_less, x, y)

pub one_flying : (p : Flying → Bool) (n : ℕ) (f : Flying) (fs : List Flying) → flying_at n fs ≡ Some f → p f ≡ true → 1 ≤ how_many p fs
one_flying p n f fs e pf =
    let less = how_many-without_flying p n f fs e in
    let x = ap one pf in
    omega (arith, less, x)
