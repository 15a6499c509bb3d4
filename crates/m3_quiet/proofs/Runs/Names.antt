-- A packet that was put among others is found under its name, and so are those that were there.
use Rattle.std.proofs.Common.{◌≡◌, true, List, [], ◌∷◌, arith}
use Rattle.std.specs.Prelude.{is_some}
use Rattle.std.proofs.lemmas.Bool.Decides.{nat_tests}
use Rattle.m3_base.specs.declared.ids.FlightId.{FlightId}
use Rattle.m3_base.specs.declared.packet.Packet.{Packet}
use Rattle.m3_base.specs.Ideal.Flights.{flight, name_of, new_flight}
use Rattle.m3_base.proofs.FlightNames.{same_name-itself}

pub known-new : (q : Packet) (fs : List Packet) → is_some (flight (name_of q) (new_flight q fs)) ≡ true
known-new q [] = grind (arith, nat_tests, same_name-itself (name_of q))
known-new q (x ∷ fs) = grind (arith, nat_tests, same_name-itself (name_of q), known-new q fs)

pub known-more : (k : FlightId) (q : Packet) (fs : List Packet) → is_some (flight k fs) ≡ true → is_some (flight k (new_flight q fs)) ≡ true
known-more k q [] h = absurd (cc)
known-more k q (x ∷ fs) h = grind (arith, nat_tests, known-more k q fs)
