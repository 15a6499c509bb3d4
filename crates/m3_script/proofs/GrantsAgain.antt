-- Grants that are printed are read back, form by form.
use Rattle.std.proofs.Common.{refl, lit<}
use Rattle.m3_text.specs.LineForm.{form_test}
use Rattle.m3_script.specs.Grants.{perm_of, recv_form, recv_of, send_form, send_of, range_form, range_of, part_form, part_of, grant_of}
use Rattle.m3_script.specs.GrantLaws.{RecvAgain, SendAgain, RangeAgain, PartAgain, RAgain, WAgain, RwAgain}
use Rattle.m3_script.proofs.NumbersAgain.{within_again, act_again, ep_again, id_again, u32_again, length_again, label_again}

pub recv_again : RecvAgain
unfolding grant_of recv_of recv_form form_test
recv_again act ep slots size r =
    rw (act_again act r.0.0, ep_again ep r.0.1, within_again 1 32 slots (lit< tt) r.1, within_again 1 512 size (lit< tt) r.2) refl

pub send_again : SendAgain
unfolding grant_of send_of send_form form_test
send_again act ep of label credits r =
    rw (act_again act r.0.0, ep_again ep r.0.1, id_again of r.1, label_again label r.2, within_again 1 32 credits (lit< tt) r.3) refl

-- a permission by the word that is printed for it
pub range_again : RangeAgain
unfolding grant_of range_of range_form form_test
range_again act ep at len perm w is r =
    rw (is, act_again act r.0.0, ep_again ep r.0.1, u32_again at r.1.0, length_again len r.1.1) refl

pub part_again : PartAgain
unfolding grant_of part_of part_form form_test
part_again act ep of at len perm w is r =
    rw (is, act_again act r.0.0, ep_again ep r.0.1, id_again of r.1, u32_again at r.2.0, length_again len r.2.1) refl

pub r_again : RAgain
unfolding perm_of
r_again = refl

pub w_again : WAgain
unfolding perm_of
w_again = refl

pub rw_again : RwAgain
unfolding perm_of
rw_again = refl
