-- The flights of the ideal state are as many as the packets of the machine.
use Rattle.std.proofs.Common.{◌≡◌, ℕ, suc, Bool, true, false, List, [], ◌∷◌, length, if◌then◌else◌, refl, ap, ◌∙◌}
use Rattle.m3_base.specs.declared.packet.Packet.{Packet}
use Rattle.m3_base.specs.Ideal.Flights.{new_flight, name_of, name_before, sorted_by_name}

length_if : (b : Bool) (n : ℕ) (xs ys : List Packet) → length xs ≡ n → length ys ≡ n → length (if b then xs else ys) ≡ n
length_if true n xs ys e f = e
length_if false n xs ys e f = f

pub length_new : (p : Packet) (ps : List Packet) → length (new_flight p ps) ≡ suc (length ps)
length_new p [] = refl
length_new p (q ∷ ps) =
    length_if (name_before (name_of p) (name_of q)) (suc (suc (length ps))) (p ∷ q ∷ ps) (q ∷ new_flight p ps) refl (ap (λ n. suc n) (length_new p ps))

pub length_by_name : (ps : List Packet) → length (sorted_by_name ps) ≡ length ps
length_by_name [] = refl
length_by_name (p ∷ ps) = length_new p (sorted_by_name ps) ∙ ap (λ n. suc n) (length_by_name ps)
