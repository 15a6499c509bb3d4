-- Results whose value is seen as a list.
use Rattle.std.specs.Prelude.{List, Result, Ok, Err, Vec}
use Rattle.std.specs.Vec.{vec_items}

abbrev pub items_of : {X Z E : Type 0} → Result (Vec X Z) E → Result (List X) E
items_of (Ok v) = Ok (vec_items v)
items_of (Err e) = Err e
