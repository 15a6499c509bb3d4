use Rattle.std.proofs.Common.{◌≡◌, ◌+◌, ◌%◌, ◌++◌, ◌∷◌, [], arith, string_bytes}
use Rattle.std.proofs.lemmas.Result.{on_ok_weaker}
use Rattle.m3_text.proofs.Figures.{last_figure, two_figures}
use Rattle.m3_text.proofs.printing.+put_long_number.Goals as goal

pub returns-then-n-lt100 : goal.returns-then-n-lt100
returns-then-n-lt100 t c =
    on_ok_weaker c.put_figure-then-n-lt100.result
    (λ (h : string_bytes c.put_figure-then-n-lt100.new.out ≡ string_bytes c.put_figure.new.out ++ (48 + c.args.n % 10) ∷ []).
    two_figures (string_bytes c.args.out.now) (string_bytes c.put_figure.new.out) (string_bytes c.put_figure-then-n-lt100.new.out) c.args.n (omega arith) (omega arith) c.in_ok-put_figure.ensures h)
    c.put_figure-then-n-lt100.ensures

pub returns : goal.returns
returns t c =
    on_ok_weaker c.put_figure-2.result
    (λ (h : string_bytes c.put_figure-2.new.out ≡ string_bytes c.put_long_number.new.out ++ (48 + c.args.n % 10) ∷ []).
    last_figure (string_bytes c.args.out.now) (string_bytes c.put_long_number.new.out) (string_bytes c.put_figure-2.new.out) c.args.n (omega arith) (omega arith) c.in_ok-put_long_number.ensures h)
    c.put_figure-2.ensures
