use Rattle.std.proofs.lemmas.Bool.Decides.{Decides-eqb}
use Rattle.std.proofs.lemmas.Slice.Eq.{strip_prefix_is}
use Rattle.m3_script.proofs.QuickForms.{front_of}
use Rattle.m3_script.proofs.quick.behind.Goals as goal

pub returns : goal.returns
returns c =
    front_of c.strip_prefix.result c.args.text.now c.args.front.now
    (strip_prefix_is Decides-eqb c.args.text.now c.args.front.now c.strip_prefix.result c.strip_prefix.ensures.cases)
