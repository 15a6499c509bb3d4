use Rattle.std.proofs.Common.{◌≡◌, Ok, Err, Some, None, rules}
use Rattle.m3_base.specs.Ideal.Flights.{flight}
use Rattle.m3_ideal.specs.IdealView.{ideal_state}
use Rattle.m3_ideal.specs.Ideal.FlightParts.{letter_at}
use Rattle.m3_ideal.proofs.LandingStep.{letter_landed, letter_refused, letter_kept}
use Rattle.m3_ideal.proofs.ideal.Ideal.land_letter.Goals as goal

pub returns-in-Err : goal.returns-in-Err
returns-in-Err c =
    let r : c.land.result ≡ Err c.in-Err.letter = cc in
    let is : letter_at (flight c.args.id c.args.self.now.flights) ≡ Some c.in-Some.letter = search rules in
    letter_kept (ideal_state c.self.inside) c.args.self.now c.args.id c.self.view_is c.land.result c.args.to c.args.ep c.args.grant c.in-Some.letter c.in-Err.letter c.land.new.self c.take_letter.new.flights.list c.put_letter.new.flights.list r c.requires is c.land.ensures.at c.take_letter.ensures.list c.put_letter.ensures.list

pub returns-in-Ok-None : goal.returns-in-Ok-None
returns-in-Ok-None c =
    let r : c.land.result ≡ Ok None = cc in
    let is : letter_at (flight c.args.id c.args.self.now.flights) ≡ Some c.in-Some.letter = search rules in
    letter_landed (ideal_state c.self.inside) c.args.self.now c.args.id c.self.view_is c.land.result c.args.to c.args.ep c.args.grant c.in-Some.letter c.is_message-is_message.result c.land.new.self c.take_letter.new.flights.list c.put_landed.new.flights.list r c.requires is c.land.ensures.at c.is_message-is_message.ensures c.take_letter.ensures.list c.put_landed.ensures.list

pub returns-in-Ok-Some : goal.returns-in-Ok-Some
returns-in-Ok-Some c =
    let r : c.land.result ≡ Ok (Some c.in-Ok-Some.why) = cc in
    let is : letter_at (flight c.args.id c.args.self.now.flights) ≡ Some c.in-Some.letter = search rules in
    rw c.in-Ok-Some.field-0-is (
    letter_refused (ideal_state c.self.inside) c.args.self.now c.args.id c.self.view_is c.land.result c.args.to c.args.ep c.args.grant c.in-Some.letter c.in-Ok-Some.why c.land.new.self c.take_letter.new.flights.list c.put_refusal.new.flights.list r c.requires is c.land.ensures.at c.take_letter.ensures.list (rw c.in-Ok-Some.field-0-is at c.put_refusal.ensures.list)
    )
