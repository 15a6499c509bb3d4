-- What each change of an endpoint does to the credits that it holds or owes.
use Rattle.std.proofs.Common.{◌≡◌, ℕ, zero, suc, ◌+◌, ◌<◌, Bool, false, List, [], ◌∷◌, ◌++◌, Some, None, arith}
use Rattle.std.specs.List.{list_any}
use Rattle.std.specs.Prelude.{Option, ◌==◌, not, ◌&&◌}
use Rattle.std.proofs.lemmas.Bool.Decides.{nat_tests}
use Rattle.m3_base.specs.Lists.Counting.{total, one, how_many}
use Rattle.m3_base.specs.declared.message.Message.{Message}
use Rattle.m3_base.specs.Ideal.Context.{SendRecord, Fetched, ReceiveRecord, Endpoint, Free, Sends, Receives, Reaches, Context}
use Rattle.m3_base.specs.Ideal.ReceiveRecord.{with_unread, with_fetched, fetched_at, without_token, with_mark}
use Rattle.m3_base.specs.Ideal.Issue.{less_one}
use Rattle.m3_base.specs.Ideal.Landing.{one_more, sends_by, endpoints_with_credit}
use Rattle.m3_base.specs.Ideal.Credits.{is_sent_by, is_owed, queued_at, held_at}
use Rattle.m3_base.proofs.Counting.{how_many-append}

-- the credits of g that an endpoint holds and owes
abbrev pub weight : ℕ → Endpoint → ℕ
weight g e = held_at g e + queued_at g e

abbrev pub context_weight : ℕ → Context → ℕ
context_weight g c = total (weight g) c.endpoints

-- ---- send records

pub weight-less_one : (g : ℕ) (r : SendRecord) → (r.held == 0) ≡ false → weight g (Sends (less_one r)) + one (r.grant == g) ≡ weight g (Sends r)
weight-less_one g r h = grind (arith, nat_tests)

pub weight-one_more : (g : ℕ) (r : SendRecord) → weight g (Sends (one_more r)) ≡ weight g (Sends r) + one (r.grant == g)
weight-one_more g r = grind (arith, nat_tests)

pub weight-credited : (g h : ℕ) (es : List Endpoint) → total (weight g) (endpoints_with_credit h es) ≡ total (weight g) es + one (list_any (sends_by h) es && (h == g))
weight-credited g h [] = grind (arith, nat_tests)
weight-credited g h (Free ∷ es) = grind (arith, nat_tests, weight-credited g h es)
weight-credited g h (Sends r ∷ es) = grind (arith, nat_tests, weight-credited g h es, weight-one_more g r)
weight-credited g h (Receives r ∷ es) = grind (arith, nat_tests, weight-credited g h es)
weight-credited g h (Reaches r ∷ es) = grind (arith, nat_tests, weight-credited g h es)

-- ---- receive records

pub weight-with_unread : (g : ℕ) (r : ReceiveRecord) (m : Message) → weight g (Receives (with_unread r m)) ≡ weight g (Receives r) + one (is_sent_by g m)
weight-with_unread g r m = grind (arith, how_many-append)

pub weight-with_fetched : (g : ℕ) (r : ReceiveRecord) (m : Message) (rest : List Message) → r.unread ≡ m ∷ rest → weight g (Receives (with_fetched r m rest)) ≡ weight g (Receives r)
weight-with_fetched g r m rest h = grind (arith, how_many-append)

-- whether a message that was looked up is owed, and whether it is one when its mark is b
abbrev pub owed_at : ℕ → Option Fetched → ℕ
owed_at g None = 0
owed_at g (Some f) = one (is_owed g f)

abbrev pub owed_with : ℕ → Bool → Option Fetched → ℕ
owed_with g b None = 0
owed_with g b (Some f) = one (is_sent_by g f.message && not b)

pub owed-without_token : (g t : ℕ) (fs : List Fetched) → how_many (is_owed g) (without_token t fs) + owed_at g (fetched_at t fs) ≡ how_many (is_owed g) fs
owed-without_token g t [] = grind arith
owed-without_token g t (x ∷ fs) = grind (arith, owed-without_token g t fs)

pub owed-with_mark : (g t : ℕ) (b : Bool) (fs : List Fetched) → how_many (is_owed g) (with_mark b t fs) + owed_at g (fetched_at t fs) ≡ how_many (is_owed g) fs + owed_with g b (fetched_at t fs)
owed-with_mark g t b [] = grind arith
owed-with_mark g t b (x ∷ fs) = grind (arith, owed-with_mark g t b fs)
