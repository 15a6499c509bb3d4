use Rattle.m3_text.proofs.ValuesAgain.{number_again, hex_of_again, flight_again}
use Rattle.m3_text.proofs.Visible.{number_visible, hex_visible, flight_visible}
use Rattle.m3_text.proofs.read_back.values_read_back.Goals as goal

pub returns-clause-numbers : goal.returns-clause-numbers
returns-clause-numbers c = number_again

pub returns-clause-number_words : goal.returns-clause-number_words
returns-clause-number_words c = number_visible

pub returns-clause-hex : goal.returns-clause-hex
returns-clause-hex c = hex_of_again

pub returns-clause-hex_words : goal.returns-clause-hex_words
returns-clause-hex_words c = hex_visible

pub returns-clause-flights : goal.returns-clause-flights
returns-clause-flights c = flight_again

pub returns-clause-flight_words : goal.returns-clause-flight_words
returns-clause-flight_words c = flight_visible
