use Rattle.std.proofs.Common.{arith}
use Rattle.m3_script.specs.ScriptText.{script_of}
use Rattle.m3_script.specs.ParserView.{Parses, state}
use Rattle.m3_script.proofs.LineLoop.{goes_on, is_refused, at_end}
use Rattle.m3_script.proofs.NamedEvents.{built_of, listed_of, named_of, orders_of, ranges_of}
use Rattle.m3_script.proofs.parsing.parse.Goals as goal

pub returns-in-Err : goal.returns-in-Err
returns-in-Err c =
    let read = c.in-Err.ensures.reads in
    record {
      exact = rw c.refusal.ensures (is_refused c.args.mode c.args.boxes c.loop-rest.rest.now read.0 read.1 (state c.loop-rest.parser) c.loop-rest.line c.in-Err.error
          (script_of c.args.mode c.args.boxes c.args.bytes.now) read.2 read.3 c.loop-rest.invariant.reads);
      named = tt;
      ranges = tt;
      built = tt;
      orders = tt;
      listed = tt;
    }

pub loop-rest-preserved : goal.loop-rest-preserved
loop-rest-preserved c =
    let read = c.in-Ok.ensures.reads in
    let shorter = c.in-Ok.ensures.shorter in
    record {
      reads = goes_on c.args.mode c.args.boxes c.loop-rest.rest.now read.0 c.in-Ok.after.now (state c.loop-rest.parser) (state c.read_first.new.parser) c.loop-rest.line
          (script_of c.args.mode c.args.boxes c.args.bytes.now) read.1 read.2 c.loop-rest.invariant.reads;
      room = omega (arith, shorter);
    }

pub returns : goal.returns
returns c =
    let exact : Parses c.script_at_end.result (script_of c.args.mode c.args.boxes c.args.bytes.now) = rw (at_end c.args.mode c.args.boxes c.loop-rest.rest.now (state c.loop-rest.parser) c.loop-rest.line (script_of c.args.mode c.args.boxes c.args.bytes.now) c.loop-rest-test.ensures c.loop-rest.invariant.reads) c.script_at_end.ensures in
    record {
      exact = exact;
      named = named_of c.args.mode c.args.boxes c.args.bytes.now c.script_at_end.result exact;
      ranges = ranges_of c.args.mode c.args.boxes c.args.bytes.now c.script_at_end.result exact;
      built = built_of c.args.mode c.args.boxes c.args.bytes.now c.script_at_end.result exact;
      orders = orders_of c.args.mode c.args.boxes c.args.bytes.now c.script_at_end.result exact;
      listed = listed_of c.args.mode c.args.boxes c.args.bytes.now c.script_at_end.result exact;
    }
