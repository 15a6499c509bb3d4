-- Worked examples: what the ideal steps of each entry say.
use Rattle.std.specs.Prelude.{◌≡◌, ℕ, List, [], ◌∷◌}
use Rattle.std.proofs.Common.{refl}
use Rattle.m3_base.specs.declared.event.Entry.{Entry}
use Rattle.m3_base.specs.declared.setup_line.SetupLine.{SetupLine}
use Rattle.m3_base.specs.Ideal.State.{State}
use Rattle.m3_base.specs.Ideal.Opening.{opening}
use Rattle.m3_base.specs.Journal.Entry.{labels_of_entries, outcomes, state_after_entries}
use Rattle.m3_base.specs.Ideal.Credits.{credits_held, credits_flying, credits_queued}
use Rattle.m3_base.specs.Examples.Scripts.{delivery_setup, delivery, full_buffer_setup, full_buffer, switch_keeps_unread_setup, switch_keeps_unread, resting_receiver, restore_waits, sender_leaves_setup, sender_leaves, replies_setup, replies, late_credit_setup, late_credit, memory_access_setup, memory_access, revoke_while_writing_setup, revoke_while_writing, close_while_replying_setup, close_while_replying, children_first_setup, children_first, order_of_refusals_setup, order_of_refusals, refused_grants_setup, refused_grants}

-- with 16 bytes of memory, the ideal steps of these entries say what their outcomes say
abbrev pub Says : List SetupLine → List Entry → Type 0
Says lines entries = labels_of_entries (opening 16 lines) entries ≡ outcomes entries

abbrev pub credits_in : State → ℕ → List ℕ
credits_in s g = credits_held g s ∷ credits_flying g s ∷ credits_queued g s ∷ []

-- the credits of a grant after these entries: held, flying, owed by queued messages
abbrev pub credits_after : List SetupLine → List Entry → ℕ → List ℕ
credits_after lines entries g = credits_in (state_after_entries (opening 16 lines) entries) g

pub delivery_says : Says delivery_setup delivery
delivery_says = refl

pub full_buffer_says : Says full_buffer_setup full_buffer
full_buffer_says = refl

pub switch_keeps_unread_says : Says switch_keeps_unread_setup switch_keeps_unread
switch_keeps_unread_says = refl

pub resting_receiver_says : Says switch_keeps_unread_setup resting_receiver
resting_receiver_says = refl

pub restore_waits_says : Says switch_keeps_unread_setup restore_waits
restore_waits_says = refl

pub sender_leaves_says : Says sender_leaves_setup sender_leaves
sender_leaves_says = refl

pub replies_says : Says replies_setup replies
replies_says = refl

pub late_credit_says : Says late_credit_setup late_credit
late_credit_says = refl

pub memory_access_says : Says memory_access_setup memory_access
memory_access_says = refl

pub revoke_while_writing_says : Says revoke_while_writing_setup revoke_while_writing
revoke_while_writing_says = refl

pub close_while_replying_says : Says close_while_replying_setup close_while_replying
close_while_replying_says = refl

pub children_first_says : Says children_first_setup children_first
children_first_says = refl

pub order_of_refusals_says : Says order_of_refusals_setup order_of_refusals
order_of_refusals_says = refl

pub refused_grants_says : Says refused_grants_setup refused_grants
refused_grants_says = refl

pub delivery_credits_2 : credits_after delivery_setup delivery 2 ≡ 1 ∷ 0 ∷ 1 ∷ []
delivery_credits_2 = refl

pub full_buffer_credits_2 : credits_after full_buffer_setup full_buffer 2 ≡ 1 ∷ 0 ∷ 1 ∷ []
full_buffer_credits_2 = refl

pub full_buffer_credits_3 : credits_after full_buffer_setup full_buffer 3 ≡ 1 ∷ 0 ∷ 1 ∷ []
full_buffer_credits_3 = refl

pub replies_credits_3 : credits_after replies_setup replies 3 ≡ 2 ∷ 0 ∷ 0 ∷ []
replies_credits_3 = refl

pub late_credit_credits_3 : credits_after late_credit_setup late_credit 3 ≡ 1 ∷ 0 ∷ 0 ∷ []
late_credit_credits_3 = refl
