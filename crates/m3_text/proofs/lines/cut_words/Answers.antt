use Rattle.std.proofs.Common.{◌≡◌, ◌<◌, ◌++◌, ◌∷◌, [], length, take, rules}
use Rattle.m3_text.specs.Lines.{words}
use Rattle.m3_text.proofs.JoinedCauses.{more_words}
use Rattle.m3_text.proofs.lines.cut_words.Goals as goal

pub loop-found-preserved-in_ok-push : goal.loop-found-preserved-in_ok-push
loop-found-preserved-in_ok-push c =
    let pushed : c.push.new.self.items ≡ c.loop-found.found.items ++ c.cut_word.result.0 ∷ [] = search rules in
    let room : length c.loop-found.found.items < c.args.most = search rules in
    let cut : words c.loop-found.rest.now ≡ c.cut_word.result.0.now ∷ words c.cut_word.result.1.now = search rules in
    record {
      cut = more_words c.args.most c.loop-found.found.items c.push.new.self.items c.cut_word.result.0 (words c.loop-found.rest.now) (words c.cut_word.result.1.now) (take c.args.most (words c.args.line.now)) room pushed cut c.loop-found.invariant.cut;
      few = search rules;
    }
