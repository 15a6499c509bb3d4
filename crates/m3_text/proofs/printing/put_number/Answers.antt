use Rattle.std.proofs.Common.{◌≡◌, ◌+◌, ◌++◌, ◌∷◌, [], sym, ◌∙◌, arith, string_bytes}
use Rattle.std.proofs.lemmas.Result.{on_ok_weaker}
use Rattle.m3_text.proofs.Figures.{one_figure}
use Rattle.m3_text.proofs.printing.put_number.Goals as goal

pub returns-then-n-lt10 : goal.returns-then-n-lt10
returns-then-n-lt10 c =
    on_ok_weaker c.put_figure.result
    (λ (h : string_bytes c.put_figure.new.out ≡ string_bytes c.args.out.now ++ (48 + c.args.n) ∷ []). h ∙ sym (one_figure (string_bytes c.args.out.now) c.args.n (omega arith)))
    c.put_figure.ensures
