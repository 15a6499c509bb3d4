use Rattle.m3_text.proofs.printing.+put_long_number.Given as goal

abbrev pub decreases-put_long_number : goal.decreases-put_long_number
decreases-put_long_number l = l.n
