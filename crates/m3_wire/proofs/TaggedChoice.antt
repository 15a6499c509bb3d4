-- A byte that stands for a kind, and what the kind says follows it.
use Rattle.std.proofs.Common.{◌≡◌, ℕ, Bool, true, false, cond, eqb, List, [], ◌∷◌, ◌++◌, Option, Some, None, Result, Ok, refl, sym, ap, ◌∙◌}
use Rattle.std.proofs.lemmas.Bool.{eqb-true}
use Rattle.m3_base.specs.declared.command.Refusal.{Refusal}
use Rattle.m3_base.specs.declared.packet.Perm.{Perm}
use Rattle.m3_wire.specs.declared.codes.PacketTag.{PacketTag}
use Rattle.m3_wire.specs.declared.codes.AnswerTag.{AnswerTag}
use Rattle.m3_wire.specs.declared.codes.RecordTag.{RecordTag}
use Rattle.m3_wire.specs.ByteReader.{Fault, coded, pair, mapped}
use Rattle.m3_wire.specs.Decoders.{code_of_refusal, perm_of, kind_of, answer_form_of, record_form_of}
use Rattle.m3_base.specs.RefusalCodes.{refusal_code}
use Rattle.m3_wire.specs.Packets.{perm_code}
use Rattle.m3_wire.proofs.ExactDecoder.{Sound, Exact, pair_sound, mapped_sound}
use Rattle.m3_wire.proofs.BytePrimitives.{coded_exact}

abbrev pub Any : {X : Type 0} → X → Type 0
Any x = Unit {0}

abbrev one : {X : Type 0} → X → Option X
one x = Some x

some_same : {X : Type 0} (a b : X) → one a ≡ one b → a ≡ b
some_same a b e = cc

-- one code of a chain, and the rest of the chain
link : {X : Type 0} (code : X → ℕ) (c n : ℕ) (a x : X) (others : Option X) → code a ≡ n → (others ≡ Some x → c ≡ code x) → cond (eqb c n) (Some a) others ≡ Some x → c ≡ code x
link {X} code c n a x others is later e = go (eqb c n) refl e
  where
    go : (b : Bool) → eqb c n ≡ b → cond b (Some a) others ≡ Some x → c ≡ code x
    go true same f = eqb-true c n same ∙ sym is ∙ ap code (some_same a x f)
    go false differ f = later f

module _ {X : Type 0} (pick : ℕ → Option X) (code : X → ℕ) (known : (x : X) → pick (code x) ≡ Some x) (of : (c : ℕ) (x : X) → pick c ≡ Some x → c ≡ code x) (x : X) where
  pub code_exact : Exact (coded pick) Any (λ y. code y ∷ [])
  code_exact = coded_exact pick Any code (λ y g. known y) (λ c y e. (tt, of c y e)) x tt

refusal_known : (x : Refusal) → code_of_refusal (refusal_code x) ≡ Some x
refusal_known Refusal.NoEndpoint = refl
refusal_known Refusal.NoCredits = refl
refusal_known Refusal.TooLarge = refl
refusal_known Refusal.Revoked = refl
refusal_known Refusal.Full = refl
refusal_known Refusal.OutOfRange = refl
refusal_known Refusal.NoPermission = refl
refusal_known Refusal.NoReplyWanted = refl
refusal_known Refusal.NoSuchToken = refl
refusal_known Refusal.BadReplyEndpoint = refl

refusal_of : (c : ℕ) (x : Refusal) → code_of_refusal c ≡ Some x → c ≡ refusal_code x
refusal_of c x e =
    link refusal_code c 1 Refusal.NoEndpoint x _ refl (
    link refusal_code c 2 Refusal.NoCredits x _ refl (
    link refusal_code c 3 Refusal.TooLarge x _ refl (
    link refusal_code c 4 Refusal.Revoked x _ refl (
    link refusal_code c 5 Refusal.Full x _ refl (
    link refusal_code c 6 Refusal.OutOfRange x _ refl (
    link refusal_code c 7 Refusal.NoPermission x _ refl (
    link refusal_code c 8 Refusal.NoReplyWanted x _ refl (
    link refusal_code c 9 Refusal.NoSuchToken x _ refl (
    link refusal_code c 10 Refusal.BadReplyEndpoint x None refl (λ f. absurd cc)))))))))) e

pub refusal_exact : Exact (coded code_of_refusal) Any (λ y. refusal_code y ∷ [])
refusal_exact = code_exact code_of_refusal refusal_code refusal_known refusal_of Refusal.Full

perm_known : (x : Perm) → perm_of (perm_code x) ≡ Some x
perm_known Perm.R = refl
perm_known Perm.W = refl
perm_known Perm.Rw = refl

perm_back : (c : ℕ) (x : Perm) → perm_of c ≡ Some x → c ≡ perm_code x
perm_back c x e =
    link perm_code c 1 Perm.R x _ refl (link perm_code c 2 Perm.W x _ refl (link perm_code c 3 Perm.Rw x None refl (λ f. absurd cc))) e

pub perm_exact : Exact (coded perm_of) Any (λ y. perm_code y ∷ [])
perm_exact = code_exact perm_of perm_code perm_known perm_back Perm.R

abbrev pub kind_code : PacketTag → ℕ
kind_code PacketTag.Message = 1
kind_code PacketTag.Credit = 2
kind_code PacketTag.Read = 3
kind_code PacketTag.Write = 4
kind_code PacketTag.Answer = 5
kind_code PacketTag.Install = 6
kind_code PacketTag.Close = 7

kind_known : (x : PacketTag) → kind_of (kind_code x) ≡ Some x
kind_known PacketTag.Message = refl
kind_known PacketTag.Credit = refl
kind_known PacketTag.Read = refl
kind_known PacketTag.Write = refl
kind_known PacketTag.Answer = refl
kind_known PacketTag.Install = refl
kind_known PacketTag.Close = refl

kind_back : (c : ℕ) (x : PacketTag) → kind_of c ≡ Some x → c ≡ kind_code x
kind_back c x e =
    link kind_code c 1 PacketTag.Message x _ refl (
    link kind_code c 2 PacketTag.Credit x _ refl (
    link kind_code c 3 PacketTag.Read x _ refl (
    link kind_code c 4 PacketTag.Write x _ refl (
    link kind_code c 5 PacketTag.Answer x _ refl (
    link kind_code c 6 PacketTag.Install x _ refl (
    link kind_code c 7 PacketTag.Close x None refl (λ f. absurd cc))))))) e

pub kind_exact : Exact (coded kind_of) Any (λ y. kind_code y ∷ [])
kind_exact = code_exact kind_of kind_code kind_known kind_back PacketTag.Close

abbrev pub answer_code : AnswerTag → ℕ
answer_code AnswerTag.Sent = 0
answer_code AnswerTag.Replied = 1
answer_code AnswerTag.Written = 2
answer_code AnswerTag.Bytes = 3
answer_code AnswerTag.Refused = 4

answer_known : (x : AnswerTag) → answer_form_of (answer_code x) ≡ Some x
answer_known AnswerTag.Sent = refl
answer_known AnswerTag.Replied = refl
answer_known AnswerTag.Written = refl
answer_known AnswerTag.Bytes = refl
answer_known AnswerTag.Refused = refl

answer_back : (c : ℕ) (x : AnswerTag) → answer_form_of c ≡ Some x → c ≡ answer_code x
answer_back c x e =
    link answer_code c 0 AnswerTag.Sent x _ refl (
    link answer_code c 1 AnswerTag.Replied x _ refl (
    link answer_code c 2 AnswerTag.Written x _ refl (
    link answer_code c 3 AnswerTag.Bytes x _ refl (
    link answer_code c 4 AnswerTag.Refused x None refl (λ f. absurd cc))))) e

pub answer_form_exact : Exact (coded answer_form_of) Any (λ y. answer_code y ∷ [])
answer_form_exact = code_exact answer_form_of answer_code answer_known answer_back AnswerTag.Sent

abbrev pub record_code : RecordTag → ℕ
record_code RecordTag.Send = 1
record_code RecordTag.Receive = 2
record_code RecordTag.Memory = 3

record_known : (x : RecordTag) → record_form_of (record_code x) ≡ Some x
record_known RecordTag.Send = refl
record_known RecordTag.Receive = refl
record_known RecordTag.Memory = refl

record_back : (c : ℕ) (x : RecordTag) → record_form_of c ≡ Some x → c ≡ record_code x
record_back c x e =
    link record_code c 1 RecordTag.Send x _ refl (link record_code c 2 RecordTag.Receive x _ refl (link record_code c 3 RecordTag.Memory x None refl (λ f. absurd cc))) e

pub record_form_exact : Exact (coded record_form_of) Any (λ y. record_code y ∷ [])
record_form_exact = code_exact record_form_of record_code record_known record_back RecordTag.Send

-- values of several kinds, each spelled by its kind's byte and its fields
module _ {K P : Type 0} (pick : ℕ → Option K) (code : K → ℕ) (kind : Exact (coded pick) Any (λ k. code k ∷ [])) (body : K → List ℕ → Result (P × List ℕ) Fault)
    (of : K × P → P) (is : (z : K × P) → of z ≡ z.1) (kind_in : P → K) (Good : P → Type 0) (fields spell : P → List ℕ) (whole : (p : P) → spell p ≡ code (kind_in p) ∷ fields p)
    (sound : (k : K) → Sound (body k) (λ p. (kind_in p ≡ k) × Good p) fields) (again : (p : P) (rest : List ℕ) → Good p → body (kind_in p) (fields p ++ rest) ≡ Ok (p, rest)) where
  pub kinds_exact : Exact (mapped of (pair (coded pick) body)) Good spell
  unfolding mapped pair
  kinds_exact = record {
    sound = mapped_sound of (pair (coded pick) body) (λ z. Any z.0 × ((kind_in z.1 ≡ z.0) × Good z.1)) (λ z. (code z.0 ∷ []) ++ fields z.1) Good spell
        (λ z g. rw (is z) g.1.1) (λ z g. rw (is z) (whole z.1 ∙ ap (λ (k : K). code k ∷ fields z.1) g.1.0))
        (pair_sound (coded pick) Any (λ k. code k ∷ []) body (λ k p. (kind_in p ≡ k) × Good p) (λ k p. fields p) kind (λ k g. sound k));
    again = λ p rest g. rw (whole p, kind.again (kind_in p) (fields p ++ rest) tt, again p rest g, is (kind_in p, p)) refl;
  }
