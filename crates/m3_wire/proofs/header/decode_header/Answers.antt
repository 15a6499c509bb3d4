use Rattle.std.proofs.Common.{arith, refl}
use Rattle.m3_wire.specs.Headers.{FitsHeader, header_bytes, part_in_header}
use Rattle.m3_wire.specs.Decoders.{header}
use Rattle.m3_wire.proofs.HeaderDecoderExact.{header_exact}
use Rattle.m3_wire.proofs.DecodeContracts.{first, refused, same, never_refused, takes_none}
use Rattle.m3_wire.proofs.header.decode_header.Goals as goal

pub returns-in-Ok-clause-found : goal.returns-in-Ok-clause-found
returns-in-Ok-clause-found c = first header FitsHeader header_bytes header_exact c.args.bytes.now _ _ 28 (λ i. omega (arith, c.type_inv.bytes i)) c.in-Ok.ensures refl

pub returns-in-Ok-clause-again : goal.returns-in-Ok-clause-again
returns-in-Ok-clause-again c = λ h text rest s parts. (same header FitsHeader header_bytes header_exact c.args.bytes.now _ h _ text rest c.in-Ok.ensures s parts).0

pub returns-in-Err-clause-refused : goal.returns-in-Err-clause-refused
returns-in-Err-clause-refused c = rw c.refusal.ensures
    (refused header FitsHeader header_bytes header_exact part_in_header c.args.bytes.now c.in-Err.fault (λ i. omega (arith, c.type_inv.bytes i)) c.in-Err.ensures, takes_none part_in_header c.args.bytes.now c.in-Err.fault)

pub returns-in-Err-clause-again : goal.returns-in-Err-clause-again
returns-in-Err-clause-again c = λ h text rest s parts. absurd (never_refused header FitsHeader header_bytes header_exact c.args.bytes.now h c.in-Err.fault text rest c.in-Err.ensures s parts)
