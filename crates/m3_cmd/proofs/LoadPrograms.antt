-- The programs of a load are lists of items.
use Rattle.std.proofs.Common.{ℕ, List, [], ◌∷◌, ◌++◌}
use Rattle.std.specs.List.{flat_map, range_with_len}
use Rattle.std.proofs.lemmas.List.Elements.{All-nil, All-cons}
use Rattle.m3_base.specs.declared.setup_line.SetupLine.{SetupLine}
use Rattle.m3_base.specs.Lists.EachElement.{Each}
use Rattle.m3_base.specs.Load.Setup.{client_round, server_round, rounds, clients, servers, load_lines}
use Rattle.m3_script.specs.Rules.{AllListed, IsListed}

each_append : (xs ys : List SetupLine) → Each IsListed xs → Each IsListed ys → Each IsListed (xs ++ ys)
each_append [] ys is are = are
each_append (x ∷ xs) ys is are = (is.0, each_append xs ys is.1 are)

each_flat : (f : ℕ → List SetupLine) → ((k : ℕ) → Each IsListed (f k)) → (ks : List ℕ) → Each IsListed (flat_map f ks)
each_flat f are [] = tt
each_flat f are (k ∷ ks) = each_append (f k) (flat_map f ks) (are k) (each_flat f are ks)

each_rounds : (round : ℕ → ℕ → List SetupLine) → ((a k : ℕ) → Each IsListed (round a k)) → (n : ℕ) (as' : List ℕ) → Each IsListed (flat_map (rounds round n) as')
each_rounds round are n as' = each_flat (rounds round n) (λ a. each_flat (round a) (are a) (range_with_len 0 n)) as'

all_listed : (ls : List SetupLine) → Each IsListed ls → AllListed ls
all_listed [] are = All-nil IsListed
all_listed (l ∷ ls) are = All-cons IsListed l ls are.0 (all_listed ls are.1)

programs_listed : (n : ℕ) → Each IsListed (flat_map (rounds client_round n) clients ++ flat_map (rounds server_round n) servers)
programs_listed n =
    each_append (flat_map (rounds client_round n) clients) (flat_map (rounds server_round n) servers)
    (each_rounds client_round (λ a k. (tt, (tt, (tt, (tt, tt))))) n clients) (each_rounds server_round (λ a k. (tt, (tt, (tt, tt)))) n servers)

pub load_listed : (n : ℕ) → AllListed (load_lines n)
load_listed n =
    all_listed (load_lines n)
    (tt, (tt, (tt, (tt, (tt, (tt, (tt, (tt, (tt, (tt, (tt, (tt, (tt, (tt, (tt, (tt, (tt, (tt, (tt, (tt, (tt, programs_listed n)))))))))))))))))))))
