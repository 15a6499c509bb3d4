use Rattle.std.proofs.Common.{◌<◌, ◌^◌}
use Rattle.m3_text.proofs.DecimalValue.{Reads}
use Rattle.m3_cmd.proofs.words.digits_value.Given as goal

abbrev pub invariant-loop-digit : goal.invariant-loop-digit
invariant-loop-digit l = record { reads : Reads l.word l.value l.digit-index; small : l.value < 2 ^ 64 }
