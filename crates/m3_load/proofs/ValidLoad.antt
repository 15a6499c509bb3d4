-- No rule refuses a line of a load of up to 500 rounds.
use Rattle.std.proofs.Common.{◌≡◌, ℕ, zero, suc, ◌+◌, ◌*◌, ◌≤◌, ◌<◌, true, false, List, [], ◌∷◌, ◌++◌, length, length-append, set, refl, ap, ◌∙◌, arith, lit<}
use Rattle.std.specs.Prelude.{nat_lt, map}
use Rattle.std.specs.List.{flat_map, range_with_len}
use Rattle.std.proofs.lemmas.List.FromFn.{length-range_with_len}
use Rattle.std.proofs.lemmas.Bool.Decides.{nat_tests}
use Rattle.m3_base.specs.declared.setup_line.SetupLine.{SetupLine}
use Rattle.m3_base.specs.declared.setup_line.ProgramKind.{ProgramKind}
use Rattle.m3_base.specs.Limits.{is_short}
use Rattle.m3_base.specs.Setup.Rules.{Facts, AllKept, no_lines, facts_with_line, facts_with_lines, facts_with_program, is_undeclared, is_taken, program_in}
use Rattle.m3_base.specs.Load.Setup.{client_round, server_round, rounds, clients, servers, home_line, inbox_line, send_line, load_lines}

-- ---- items

-- an item of one of the first eight activities
abbrev IsItem : SetupLine → Type 0
IsItem (SetupLine.Item a c) = (a < 8) × (is_short c ≡ true)
IsItem (SetupLine.AwaitItem a ep) = a < 8
IsItem l = ⊥

abbrev AreItems : List SetupLine → Type 0
AreItems [] = Unit {0}
AreItems (l ∷ ls) = IsItem l × AreItems ls

items_append : (xs ys : List SetupLine) → AreItems xs → AreItems ys → AreItems (xs ++ ys)
items_append [] ys is are = are
items_append (x ∷ xs) ys is are = (is.0, items_append xs ys is.1 are)

items_rounds : (round : ℕ → List SetupLine) → ((k : ℕ) → AreItems (round k)) → (ks : List ℕ) → AreItems (flat_map round ks)
items_rounds round are [] = tt
items_rounds round are (k ∷ ks) = items_append (round k) (flat_map round ks) (are k) (items_rounds round are ks)

abbrev Below8 : List ℕ → Type 0
Below8 [] = Unit {0}
Below8 (a ∷ as') = (a < 8) × Below8 as'

items_acts : (round : ℕ → ℕ → List SetupLine) (n : ℕ) → ((a k : ℕ) → a < 8 → AreItems (round a k)) → (as' : List ℕ) → Below8 as' → AreItems (flat_map (rounds round n) as')
items_acts round n are [] below = tt
items_acts round n are (a ∷ as') below =
    items_append (rounds round n a) (flat_map (rounds round n) as') (items_rounds (round a) (λ k. are a k below.0) (range_with_len 0 n)) (items_acts round n are as' below.1)

client_items : (a k : ℕ) → a < 8 → AreItems (client_round a k)
client_items a k below = ((below, refl), (below, ((below, refl), ((below, refl), tt))))

server_items : (a k : ℕ) → a < 8 → AreItems (server_round a k)
server_items a k below = (below, ((below, refl), ((below, refl), tt)))

-- ---- how many there are

length_client : (a : ℕ) (ks : List ℕ) → length (flat_map (client_round a) ks) ≡ 4 * length ks
length_client a [] = refl
length_client a (k ∷ ks) = omega (arith, length_client a ks)

length_server : (a : ℕ) (ks : List ℕ) → length (flat_map (server_round a) ks) ≡ 3 * length ks
length_server a [] = refl
length_server a (k ∷ ks) = omega (arith, length_server a ks)

abbrev times : ℕ → ℕ → ℕ
times m zero = 0
times m (suc k) = m + times m k

length_acts : (round : ℕ → ℕ → List SetupLine) (n m : ℕ) → ((a : ℕ) → length (rounds round n a) ≡ m) → (as' : List ℕ) → length (flat_map (rounds round n) as') ≡ times m (length as')
length_acts round n m is [] = refl
length_acts round n m is (a ∷ as') =
    length-append (rounds round n a) (flat_map (rounds round n) as') ∙ ap (λ k. k + length (flat_map (rounds round n) as')) (is a) ∙ ap (λ k. m + k) (length_acts round n m is as')

-- ---- rules

-- items of the first eight activities may follow, so many
record Accepts (f : Facts) (left : ℕ) : Type 0 where
  declared : (a : ℕ) → a < 8 → is_undeclared a f ≡ false
  free : (a : ℕ) → a < 8 → is_taken (program_in f.programs a) ProgramKind.Listed ≡ false
  room : f.weight + left ≤ 16384

free_after : (ps : List ProgramKind) (a b : ℕ) → is_taken (program_in ps b) ProgramKind.Listed ≡ false
    → is_taken (program_in (set ps a ProgramKind.Listed) b) ProgramKind.Listed ≡ false
free_after [] a b h = h
free_after (p ∷ ps) zero zero h = refl
free_after (p ∷ ps) zero (suc b) h = h
free_after (p ∷ ps) (suc a) zero h = h
free_after (p ∷ ps) (suc a) (suc b) h = free_after ps a b h

accepts_rest : (f : Facts) (left a : ℕ) → Accepts f (suc left) → Accepts (facts_with_program a ProgramKind.Listed 1 f) left
accepts_rest f left a acc = record {
  declared = acc.declared;
  free = λ b below. free_after f.programs a b (acc.free b below);
  room = omega (arith, acc.room);
}

not_full : (w left : ℕ) → w + suc left ≤ 16384 → nat_lt 16384 (w + 1) ≡ false
not_full w left room = grind (arith, nat_tests, room)

wide : (a : ℕ) → a < 8 → a < 64
wide a below = omega (arith, below)

items_kept : (ls : List SetupLine) (f : Facts) → AreItems ls → Accepts f (length ls) → AllKept ls f
items_kept [] f are acc = tt
items_kept (SetupLine.Item a c ∷ ls) f are acc = (
  rw (are.0.1, acc.declared a are.0.0, acc.free a are.0.0, not_full f.weight (length ls) acc.room) refl,
  (wide a are.0.0, items_kept ls (facts_with_program a ProgramKind.Listed 1 f) are.1 (accepts_rest f (length ls) a acc)),
)
items_kept (SetupLine.AwaitItem a ep ∷ ls) f are acc = (
  rw (acc.declared a are.0, acc.free a are.0, not_full f.weight (length ls) acc.room) refl,
  (wide a are.0, items_kept ls (facts_with_program a ProgramKind.Listed 1 f) are.1 (accepts_rest f (length ls) a acc)),
)
items_kept (SetupLine.Act a t ∷ ls) f are acc = absurd are.0
items_kept (SetupLine.Quantum q ∷ ls) f are acc = absurd are.0
items_kept (SetupLine.Grant line ∷ ls) f are acc = absurd are.0
items_kept (SetupLine.Files g ∷ ls) f are acc = absurd are.0
items_kept (SetupLine.Writer a m s r chunk ring bytes ∷ ls) f are acc = absurd are.0
items_kept (SetupLine.Reader a m r chunk ring fuel ∷ ls) f are acc = absurd are.0
items_kept (SetupLine.Boxed a logic fuel ∷ ls) f are acc = absurd are.0

-- ---- the lines before the items

abbrev machine_part : List SetupLine
machine_part =
    map home_line (clients ++ servers)
    ++ (SetupLine.Quantum 4 ∷ [])
    ++ map (inbox_line 0) servers
    ++ map (inbox_line 1) clients
    ++ map send_line clients

kept_append : (xs ys : List SetupLine) (f : Facts) → AllKept xs f → AllKept ys (facts_with_lines xs f) → AllKept (xs ++ ys) f
kept_append [] ys f is are = are
kept_append (x ∷ xs) ys f is are = (is.0, (is.1.0, kept_append xs ys (facts_with_line x f) is.1.1 are))

machine_kept : AllKept machine_part (no_lines 6 65536)
machine_kept = (
  refl,
  (
    lit< tt,
    (
      refl,
      (
        lit< tt,
        (
          refl,
          (
            lit< tt,
            (
              refl,
              (
                lit< tt,
                (
                  refl,
                  (
                    lit< tt,
                    (
                      refl,
                      (
                        lit< tt,
                        (
                          refl,
                          (
                            lit< tt,
                            (
                              refl,
                              (
                                lit< tt,
                                (
                                  refl,
                                  (
                                    tt,
                                    (
                                      refl,
                                      (
                                        (lit< tt, lit< tt),
                                        (
                                          refl,
                                          (
                                            (lit< tt, lit< tt),
                                            (
                                              refl,
                                              (
                                                (lit< tt, lit< tt),
                                                (
                                                  refl,
                                                  (
                                                    (lit< tt, lit< tt),
                                                    (
                                                      refl,
                                                      (
                                                        (lit< tt, lit< tt),
                                                        (
                                                          refl,
                                                          (
                                                            (lit< tt, lit< tt),
                                                            (
                                                              refl,
                                                              (
                                                                (lit< tt, lit< tt),
                                                                (
                                                                  refl,
                                                                  (
                                                                    (lit< tt, lit< tt),
                                                                    (refl, ((lit< tt, lit< tt), (refl, ((lit< tt, lit< tt), (refl, ((lit< tt, lit< tt), (refl, ((lit< tt, lit< tt), tt)))))))),
                                                                  ),
                                                                ),
                                                              ),
                                                            ),
                                                          ),
                                                        ),
                                                      ),
                                                    ),
                                                  ),
                                                ),
                                              ),
                                            ),
                                          ),
                                        ),
                                      ),
                                    ),
                                  ),
                                ),
                              ),
                            ),
                          ),
                        ),
                      ),
                    ),
                  ),
                ),
              ),
            ),
          ),
        ),
      ),
    ),
  ),
)

by_eight : (P : ℕ → Type 0) → P 0 → P 1 → P 2 → P 3 → P 4 → P 5 → P 6 → P 7 → (a : ℕ) → a < 8 → P a
by_eight P p0 p1 p2 p3 p4 p5 p6 p7 zero below = p0
by_eight P p0 p1 p2 p3 p4 p5 p6 p7 (suc zero) below = p1
by_eight P p0 p1 p2 p3 p4 p5 p6 p7 (suc (suc zero)) below = p2
by_eight P p0 p1 p2 p3 p4 p5 p6 p7 (suc (suc (suc zero))) below = p3
by_eight P p0 p1 p2 p3 p4 p5 p6 p7 (suc (suc (suc (suc zero)))) below = p4
by_eight P p0 p1 p2 p3 p4 p5 p6 p7 (suc (suc (suc (suc (suc zero))))) below = p5
by_eight P p0 p1 p2 p3 p4 p5 p6 p7 (suc (suc (suc (suc (suc (suc zero)))))) below = p6
by_eight P p0 p1 p2 p3 p4 p5 p6 p7 (suc (suc (suc (suc (suc (suc (suc zero))))))) below = p7
by_eight P p0 p1 p2 p3 p4 p5 p6 p7 (suc (suc (suc (suc (suc (suc (suc (suc a)))))))) below = absurd (omega (arith, below))

abbrev after_machine : Facts
after_machine = facts_with_lines machine_part (no_lines 6 65536)

machine_accepts : (left : ℕ) → left ≤ 16384 → Accepts after_machine left
machine_accepts left few = record {
  declared = by_eight (λ a. is_undeclared a after_machine ≡ false) refl refl refl refl refl refl refl refl;
  free = by_eight (λ a. is_taken (program_in after_machine.programs a) ProgramKind.Listed ≡ false) refl refl refl refl refl refl refl refl;
  room = omega (arith, few);
}

abbrev programs_part : ℕ → List SetupLine
programs_part n = flat_map (rounds client_round n) clients ++ flat_map (rounds server_round n) servers

clients_below : Below8 clients
clients_below = (lit< tt, (lit< tt, (lit< tt, (lit< tt, tt))))

servers_below : Below8 servers
servers_below = (lit< tt, (lit< tt, (lit< tt, (lit< tt, tt))))

programs_items : (n : ℕ) → AreItems (programs_part n)
programs_items n =
    items_append (flat_map (rounds client_round n) clients) (flat_map (rounds server_round n) servers)
    (items_acts client_round n client_items clients clients_below) (items_acts server_round n server_items servers servers_below)

client_length : (n a : ℕ) → length (rounds client_round n a) ≡ 4 * n
client_length n a = length_client a (range_with_len 0 n) ∙ ap (λ k. 4 * k) (length-range_with_len 0 n)

server_length : (n a : ℕ) → length (rounds server_round n a) ≡ 3 * n
server_length n a = length_server a (range_with_len 0 n) ∙ ap (λ k. 3 * k) (length-range_with_len 0 n)

length_programs : (n : ℕ) → length (programs_part n) ≡ times (4 * n) 4 + times (3 * n) 4
length_programs n =
    length-append (flat_map (rounds client_round n) clients) (flat_map (rounds server_round n) servers)
    ∙ ap (λ m. m + length (flat_map (rounds server_round n) servers)) (length_acts client_round n (4 * n) (client_length n) clients)
    ∙ ap (λ m. times (4 * n) 4 + m) (length_acts server_round n (3 * n) (server_length n) servers)

few_programs : (n : ℕ) → n ≤ 500 → length (programs_part n) ≤ 16384
few_programs n few = let is = length_programs n in omega (arith, is, few)

pub load_kept : (n : ℕ) → n ≤ 500 → AllKept (load_lines n) (no_lines 6 65536)
load_kept n few =
    kept_append machine_part (programs_part n) (no_lines 6 65536) machine_kept
    (items_kept (programs_part n) after_machine (programs_items n) (machine_accepts (length (programs_part n)) (few_programs n few)))
