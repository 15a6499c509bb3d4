-- What is written of a text, and which status is due.
use Rattle.std.proofs.Common.{◌≡◌, ◌≢◌, ℕ, ◌≤◌, List, [], ◌∷◌, ◌++◌, length, Option, Some, None, Ok, Err, ap, sym, ◌∙◌, subst, inl, inr, arith, ⊎_elim}
use Rattle.std.specs.Prelude.{◌⊎◌, IfOk, Result}
use Rattle.std.proofs.lemmas.Bool.{cases_eq}
use Rattle.std.specs.declared.alloc.AllocError.{AllocError}
use Rattle.std.specs.declared.alloc.Global.{Global}
use Rattle.std.specs.declared.string.String.{String}
use Rattle.m3_base.specs.Io.Streams.{Appends, AppendsSome, GivesMore, GivesUpTo, ReadsAll}
use Rattle.m3_ideal.specs.Check.Verdicts.{IsVerdict}
use Rattle.m3_ideal.specs.declared.verdict.Verdict.{Verdict}
use Rattle.m3_journal.specs.Reading.Journals.{JournalValue}
use Rattle.m3_script.specs.ScriptText.{Refused}
use Rattle.m3_cmd.specs.declared.output.Output.{Output}
use Rattle.m3_cmd.specs.declared.words.Form.{Form}
use Rattle.m3_cmd.specs.declared.words.InputForm.{InputForm}
use Rattle.m3_cmd.specs.CheckContract.{IsJudged, IsVerdictOn, verdict_status}
use Rattle.m3_cmd.specs.OutputContract.{AreDue, HasNoneLeft, IsAnswer, IsComplete, IsReadAnswer}
use Rattle.m3_cmd.specs.DriverContract.{IsLoadAnswer}
use Rattle.m3_cmd.specs.ShowContract.{ArePackets}
use Rattle.m3_cmd.specs.Statuses.{IsOneOf, OfBytes}
use Rattle.m3_cmd.specs.CommandLine.{Asks, IsNoForm, limit_of}
use Rattle.m3_cmd.specs.Writing.{WritesAll, WritesAtMost, WritesSome, Writes}

-- ---- what is written

-- what is written of one kind of answers is written of a wider kind
pub all_more : (P Q : List ℕ → Type 0) (old new : Option (List ℕ)) → ((text : List ℕ) → P text → Q text) → WritesAll P old new → WritesAll Q old new
all_more P Q old new f w = record { text = w.text; output = f w.text w.output; written = w.written }

pub some_more : (P Q : ℕ → List ℕ → Type 0) (old new : Option (List ℕ)) → ((status : ℕ) (text : List ℕ) → P status text → Q status text) → WritesSome P old new → WritesSome Q old new
some_more P Q old new f w = record { status = w.status; text = w.text; output = f w.status w.text w.output; part = w.part }

pub most_more : (P Q : ℕ → List ℕ → Type 0) (old new : Option (List ℕ)) → ((status : ℕ) (text : List ℕ) → P status text → Q status text) → WritesAtMost P old new → WritesAtMost Q old new
most_more P Q old new f (inl none) = inl none
most_more P Q old new f (inr some) = inr (some_more P Q old new f some)

-- `write_bytes` writes the whole of what it is handed, and answers the status
pub output_all : (Is : ℕ → List ℕ → Type 0) (status result : ℕ) (bytes : List ℕ) (old new : Option (List ℕ)) → Is status bytes → (result ≡ status) × Appends old new bytes → WritesAll (Is result) old new
output_all Is status result bytes old new is w = record { text = bytes; output = subst (λ (s : ℕ). Is s bytes) (sym w.0) is; written = w.1 }

-- where its sink fails, a prefix
pub output_some : (Is : ℕ → List ℕ → Type 0) (status : ℕ) (bytes : List ℕ) (old new : Option (List ℕ)) → Is status bytes → AppendsSome old new bytes → WritesSome Is old new
output_some Is status bytes old new is part = record { status = status; text = bytes; output = is; part = part }

-- ---- the statuses of answers

verdict_one : (verdict : Verdict) (status : ℕ) → status ≡ verdict_status verdict → IsOneOf (0 ∷ 2 ∷ 6 ∷ 7 ∷ []) status
verdict_one (Verdict.Legal n) status is = inl is
verdict_one (Verdict.Illegal n why) status is = inr (inr (inr (inl is)))

pub answer_one : (form : InputForm) (bytes : List ℕ) (status : ℕ) (text : List ℕ) → IsAnswer form bytes status text → IsOneOf (0 ∷ 2 ∷ 6 ∷ 7 ∷ []) status
answer_one (InputForm.Run format) bytes status text (inl a) = inl a.0
answer_one (InputForm.Run format) bytes status text (inr a) = inr (inl a.0)
answer_one (InputForm.Auto format) bytes status text (inl a) = inl a.0
answer_one (InputForm.Auto format) bytes status text (inr (inl a)) = inr (inr (inl a.0))
answer_one (InputForm.Auto format) bytes status text (inr (inr a)) = inr (inl a.0)
answer_one InputForm.Check bytes status text (inl a) = verdict_one a.verdict status a.is_status
answer_one InputForm.Check bytes status text (inr a) = inr (inl a.0)
answer_one InputForm.Show bytes status text (inl a) = inl a.0
answer_one InputForm.Show bytes status text (inr a) = inr (inl a.0)

fair_one : (status : ℕ) → IsOneOf (0 ∷ 2 ∷ 6 ∷ 7 ∷ []) status → (status ≢ 4) × (status ≢ 5)
fair_one status (inl e) = ((λ four. let no : 0 ≡ 4 = sym e ∙ four in cc), (λ five. let no : 0 ≡ 5 = sym e ∙ five in cc))
fair_one status (inr (inl e)) = ((λ four. let no : 2 ≡ 4 = sym e ∙ four in cc), (λ five. let no : 2 ≡ 5 = sym e ∙ five in cc))
fair_one status (inr (inr (inl e))) = ((λ four. let no : 6 ≡ 4 = sym e ∙ four in cc), (λ five. let no : 6 ≡ 5 = sym e ∙ five in cc))
fair_one status (inr (inr (inr (inl e)))) = ((λ four. let no : 7 ≡ 4 = sym e ∙ four in cc), (λ five. let no : 7 ≡ 5 = sym e ∙ five in cc))
fair_one status (inr (inr (inr (inr never)))) = absurd never

-- no answer has the status of a fault or of want of memory
abbrev pub IsFair : (ℕ → List ℕ → Type 0) → Type 0
IsFair Is = (status : ℕ) (text : List ℕ) → Is status text → (status ≢ 4) × (status ≢ 5)

pub answers_fair : (form : InputForm) (bytes : List ℕ) → IsFair (IsAnswer form bytes)
answers_fair form bytes status text is = fair_one status (answer_one form bytes status text is)

pub load_one : (rounds status : ℕ) (text : List ℕ) → IsLoadAnswer rounds status text → IsOneOf (0 ∷ 6 ∷ []) status
load_one rounds status text (inl a) = inl a.0
load_one rounds status text (inr a) = inr (inl a.0)

pub loads_fair : (rounds : ℕ) → IsFair (IsLoadAnswer rounds)
loads_fair rounds status text (inl a) = fair_one status (inl a.0)
loads_fair rounds status text (inr a) = fair_one status (inr (inr (inl a.0)))

-- ---- what `write_output` writes, of answers whose statuses aren't 4 and 5

pub written_all : (Is : ℕ → List ℕ → Type 0) (rose : Type 0) (output : Result Output AllocError) (result : ℕ) (old new : Option (List ℕ)) → IfOk output (λ o. Is o.status o.text.items)
    → Writes output rose result old new → result ≢ 4 → result ≢ 5 → WritesAll (Is result) old new
written_all Is rose (Ok o) result old new is w not_four not_five = output_all Is o.status result o.text.items old new is (w.0 not_four)
written_all Is rose (Err e) result old new is w not_four not_five = absurd (not_five w.0)

pub written_some : (Is : ℕ → List ℕ → Type 0) (rose : Type 0) (output : Result Output AllocError) (result : ℕ) (old new : Option (List ℕ)) → IsFair Is → IfOk output (λ o. Is o.status o.text.items)
    → Writes output rose result old new → result ≡ 4 → rose × WritesSome Is old new
written_some Is rose (Ok o) result old new fair is w four =
    let x = w.1 (fair o.status o.text.items is).0 four in (x.0, output_some Is o.status o.text.items old new is x.1)
written_some Is rose (Err e) result old new fair is w four = absurd (let no : 5 ≡ 4 = sym w.0 ∙ four in cc)

pub written_none : (Is : ℕ → List ℕ → Type 0) (rose : Type 0) (output : Result Output AllocError) (result : ℕ) (old new : Option (List ℕ)) → IsFair Is → IfOk output (λ o. Is o.status o.text.items)
    → Writes output rose result old new → result ≡ 5 → Appends old new []
written_none Is rose (Ok o) result old new fair is w five =
    absurd ((fair o.status o.text.items is).1 (sym (w.0 (λ four. let no : 5 ≡ 4 = sym five ∙ four in cc)).0 ∙ five))
written_none Is rose (Err e) result old new fair is w five = w.1

-- the status that is answered is the output's, a fault's or that of want of memory
pub written_one : (Is : ℕ → List ℕ → Type 0) (statuses : List ℕ) (rose : Type 0) (output : Result Output AllocError) (result : ℕ) (old new : Option (List ℕ)) → IfOk output (λ o. Is o.status o.text.items)
    → ((status : ℕ) (text : List ℕ) → Is status text → IsOneOf statuses status) → Writes output rose result old new → (result ≡ 4) ⊎ ((result ≡ 5) ⊎ IsOneOf statuses result)
written_one Is statuses rose (Ok o) result old new is one w =
    ⊎_elim (λ (four : result ≡ 4). inl four) (λ (not_four : result ≡ 4 → ⊥). inr (inr (subst (IsOneOf statuses) (sym (w.0 not_four).0) (one o.status o.text.items is)))) (cases_eq result 4)
written_one Is statuses rose (Err e) result old new is one w = inr (inl w.0)

pub input_one : (result : ℕ) → (result ≡ 4) ⊎ ((result ≡ 5) ⊎ IsOneOf (0 ∷ 2 ∷ 6 ∷ 7 ∷ []) result) → IsOneOf (0 ∷ 2 ∷ 3 ∷ 4 ∷ 5 ∷ 6 ∷ 7 ∷ 8 ∷ []) result
input_one result (inl e) = inr (inr (inr (inl e)))
input_one result (inr (inl e)) = inr (inr (inr (inr (inl e))))
input_one result (inr (inr (inl e))) = inl e
input_one result (inr (inr (inr (inl e)))) = inr (inl e)
input_one result (inr (inr (inr (inr (inl e))))) = inr (inr (inr (inr (inr (inl e)))))
input_one result (inr (inr (inr (inr (inr (inl e)))))) = inr (inr (inr (inr (inr (inr (inl e))))))
input_one result (inr (inr (inr (inr (inr (inr never)))))) = absurd never

-- no answer has the status of a fault of the source, or of too long an input
pub no_read : (result : ℕ) → (result ≡ 4) ⊎ ((result ≡ 5) ⊎ IsOneOf (0 ∷ 2 ∷ 6 ∷ 7 ∷ []) result) → (result ≢ 3) × (result ≢ 8)
no_read result (inl e) = ((λ f. let no : 4 ≡ 3 = sym e ∙ f in cc), (λ f. let no : 4 ≡ 8 = sym e ∙ f in cc))
no_read result (inr (inl e)) = ((λ f. let no : 5 ≡ 3 = sym e ∙ f in cc), (λ f. let no : 5 ≡ 8 = sym e ∙ f in cc))
no_read result (inr (inr (inl e))) = ((λ f. let no : 0 ≡ 3 = sym e ∙ f in cc), (λ f. let no : 0 ≡ 8 = sym e ∙ f in cc))
no_read result (inr (inr (inr (inl e)))) = ((λ f. let no : 2 ≡ 3 = sym e ∙ f in cc), (λ f. let no : 2 ≡ 8 = sym e ∙ f in cc))
no_read result (inr (inr (inr (inr (inl e))))) = ((λ f. let no : 6 ≡ 3 = sym e ∙ f in cc), (λ f. let no : 6 ≡ 8 = sym e ∙ f in cc))
no_read result (inr (inr (inr (inr (inr (inl e)))))) = ((λ f. let no : 7 ≡ 3 = sym e ∙ f in cc), (λ f. let no : 7 ≡ 8 = sym e ∙ f in cc))
no_read result (inr (inr (inr (inr (inr (inr never)))))) = absurd never

pub loaded_one : (result : ℕ) → (result ≡ 4) ⊎ ((result ≡ 5) ⊎ IsOneOf (0 ∷ 6 ∷ []) result) → IsOneOf (0 ∷ 4 ∷ 5 ∷ 6 ∷ []) result
loaded_one result (inl e) = inr (inl e)
loaded_one result (inr (inl e)) = inr (inr (inl e))
loaded_one result (inr (inr (inl e))) = inl e
loaded_one result (inr (inr (inr (inl e)))) = inr (inr (inr (inl e)))
loaded_one result (inr (inr (inr (inr never)))) = absurd never

-- ---- which status is due

-- a fault, and want of memory, is due anyway
fault_in : (statuses : List ℕ) (result : ℕ) → IsOneOf (3 ∷ 4 ∷ 5 ∷ []) result → IsOneOf (statuses ++ 3 ∷ 4 ∷ 5 ∷ []) result
fault_in [] result fault = fault
fault_in (s ∷ ss) result fault = inr (fault_in ss result fault)

first_due : (statuses : List ℕ) (s : ℕ) (ss : List ℕ) (result : ℕ) → statuses ≡ s ∷ ss → result ≡ s → IsOneOf (statuses ++ 3 ∷ 4 ∷ 5 ∷ []) result
first_due statuses s ss result are is = subst (λ (xs : List ℕ). IsOneOf (xs ++ 3 ∷ 4 ∷ 5 ∷ []) result) (sym are) (inl is)

second_due : (statuses : List ℕ) (s t : ℕ) (ss : List ℕ) (result : ℕ) → statuses ≡ s ∷ t ∷ ss → result ≡ t → IsOneOf (statuses ++ 3 ∷ 4 ∷ 5 ∷ []) result
second_due statuses s t ss result are is = subst (λ (xs : List ℕ). IsOneOf (xs ++ 3 ∷ 4 ∷ 5 ∷ []) result) (sym are) (inr (inl is))

ok_same : {X E : Type 0} (x y : X) → ◌≡◌ {A = Result X E} (Ok x) (Ok y) → x ≡ y
ok_same x y e = cc

-- there is one verdict on a journal
judged_due : (bytes : List ℕ) (result : ℕ) (text : List ℕ) (verdict : Verdict) → IsJudged bytes verdict → IsVerdictOn bytes result text → result ≡ verdict_status verdict
judged_due bytes result text verdict j a =
    let same : j.journal ≡ a.journal = ok_same {E = Refused} j.journal a.journal (sym j.spelled ∙ a.spelled) in
    let judged : IsVerdict a.journal.setup a.journal.entries a.journal.audit verdict =
    subst (λ (x : JournalValue). IsVerdict x.setup x.entries x.audit verdict) same j.judged in
    a.is_status ∙ ap verdict_status (sym (a.only verdict judged))

in_due : (form : InputForm) (bytes statuses : List ℕ) (result : ℕ) (text : List ℕ) → AreDue form bytes statuses → IsAnswer form bytes result text → IsOneOf (statuses ++ 3 ∷ 4 ∷ 5 ∷ []) result
in_due (InputForm.Run format) bytes statuses result text (inl d) (inl a) = first_due statuses 0 [] result d.0 a.0
in_due (InputForm.Run format) bytes statuses result text (inr d) (inl a) = absurd (let e = sym d.1.refuses ∙ a.1.spelled in cc)
in_due (InputForm.Run format) bytes statuses result text (inl d) (inr a) = absurd (let e = sym a.1.refuses ∙ d.1.spelled in cc)
in_due (InputForm.Run format) bytes statuses result text (inr d) (inr a) = first_due statuses 2 [] result d.0 a.0
in_due (InputForm.Auto format) bytes statuses result text (inl d) (inl a) = first_due statuses 0 (6 ∷ []) result d.0 a.0
in_due (InputForm.Auto format) bytes statuses result text (inl d) (inr (inl a)) = second_due statuses 0 6 [] result d.0 a.0
in_due (InputForm.Auto format) bytes statuses result text (inl d) (inr (inr a)) = absurd (let e = sym a.1.refuses ∙ d.1.spelled in cc)
in_due (InputForm.Auto format) bytes statuses result text (inr d) (inl a) = absurd (let e = sym d.1.refuses ∙ a.1.spelled in cc)
in_due (InputForm.Auto format) bytes statuses result text (inr d) (inr (inl a)) = absurd (let e = sym d.1.refuses ∙ a.1.spelled in cc)
in_due (InputForm.Auto format) bytes statuses result text (inr d) (inr (inr a)) = first_due statuses 2 [] result d.0 a.0
in_due InputForm.Check bytes statuses result text (inl d) (inl a) = first_due statuses (verdict_status d.0) [] result d.1 (judged_due bytes result text d.0 d.2 a)
in_due InputForm.Check bytes statuses result text (inr d) (inl a) = absurd (let e = sym d.1.refuses ∙ a.spelled in cc)
in_due InputForm.Check bytes statuses result text (inl d) (inr a) = absurd (let e = sym a.1.refuses ∙ d.2.spelled in cc)
in_due InputForm.Check bytes statuses result text (inr d) (inr a) = first_due statuses 2 [] result d.0 a.0
in_due InputForm.Show bytes statuses result text (inl d) (inl a) = first_due statuses 0 [] result d.0 a.0
in_due InputForm.Show bytes statuses result text (inr d) (inl a) = absurd (d.1 a.1.packets a.1.spelled)
in_due InputForm.Show bytes statuses result text (inl d) (inr a) = absurd (let p : ArePackets bytes = d.1 in a.1 p.0 p.1)
in_due InputForm.Show bytes statuses result text (inr d) (inr a) = first_due statuses 2 [] result d.0 a.0

complete : (form : InputForm) (bytes : List ℕ) (result : ℕ) (old new : Option (List ℕ)) → (result ≢ 4 → result ≢ 5 → WritesAll (IsAnswer form bytes result) old new) → IsComplete form bytes result
complete form bytes result old new out statuses due few =
    ⊎_elim (λ (four : result ≡ 4). fault_in statuses result (inr (inl four))) (λ (not_four : result ≡ 4 → ⊥).
    ⊎_elim (λ (five : result ≡ 5). fault_in statuses result (inr (inr (inl five)))) (λ (not_five : result ≡ 5 → ⊥).
    let w = out not_four not_five in in_due form bytes statuses result w.text due w.output) (cases_eq result 5)) (cases_eq result 4)

-- ---- the bytes of a source

-- what holds of all the bytes that were read holds of those that the source tells
of_read : (P : List ℕ → Type 0) (left rest : Option (List ℕ)) (bytes : List ℕ) → ReadsAll left rest bytes → P bytes → OfBytes left P
of_read P None rest bytes all p = tt
of_read P (Some left) rest bytes all p = subst P all.1 p

pub none_left : (left rest : Option (List ℕ)) (bytes : List ℕ) → ReadsAll left rest bytes → HasNoneLeft left rest
none_left None rest bytes all = tt
none_left (Some left) rest bytes all = all.0

-- what isn't read has given nothing
pub gives_none : (left : Option (List ℕ)) (limit : ℕ) → GivesUpTo left left limit
gives_none None limit = tt
gives_none (Some left) limit = omega arith

-- who gives more than the limit has more
pub long_complete : (form : InputForm) (left rest : Option (List ℕ)) (result : ℕ) → GivesMore left rest (limit_of form) → OfBytes left (λ bytes. IsComplete form bytes result)
long_complete form None rest result more = tt
long_complete form (Some left) None result more = absurd more
long_complete form (Some left) (Some rest) result more = λ statuses due few. absurd (omega (arith, more, few))

-- where it is no answer, nothing else is due
pub faulty_complete : (form : InputForm) (left : Option (List ℕ)) (result : ℕ) → IsOneOf (3 ∷ 4 ∷ 5 ∷ []) result → OfBytes left (λ bytes. IsComplete form bytes result)
faulty_complete form None result fault = tt
faulty_complete form (Some left) result fault = λ statuses due few. fault_in statuses result fault

-- ---- the answer to what was read

pub read_answer : (form : InputForm) (left rest : Option (List ℕ)) (read bytes : List ℕ) → ReadsAll left rest read → bytes ≡ read → length read ≤ limit_of form
    → (status : ℕ) (text : List ℕ) → IsAnswer form bytes status text → IsReadAnswer form left rest status text
read_answer form left rest read bytes all same few status text is = record {
  bytes = read;
  whole = all;
  few = few;
  answer = subst (λ (b : List ℕ). IsAnswer form b status text) same is;
}

pub read_complete : (form : InputForm) (left rest : Option (List ℕ)) (read bytes : List ℕ) (result : ℕ) (old new : Option (List ℕ)) → ReadsAll left rest read → bytes ≡ read
    → (result ≢ 4 → result ≢ 5 → WritesAll (IsAnswer form bytes result) old new) → OfBytes left (λ (b : List ℕ). IsComplete form b result)
read_complete form left rest read bytes result old new all same out =
    of_read (λ (b : List ℕ). IsComplete form b result) left rest read all (
    subst (λ (b : List ℕ). IsComplete form b result) same (complete form bytes result old new out))

-- ---- what the words ask for is one thing

input_is : (form other : InputForm) → ◌≡◌ {A = Option Form} (Some (Form.Input form)) (Some (Form.Input other)) → form ≡ other
input_is form other e = cc

pub same_form : (words : List (String Global)) (form other : InputForm) → Asks words (Form.Input form) → Asks words (Form.Input other) → form ≡ other
same_form words form other asks also = input_is form other (sym asks ∙ also)

pub no_form : (words : List (String Global)) (form : Form) (A : Type 0) → IsNoForm words → Asks words form → A
no_form words form A none asks = absurd (let e : None ≡ Some form = sym none ∙ asks in cc)

pub no_load : (words : List (String Global)) (form : InputForm) (rounds : ℕ) (A : Type 0) → Asks words (Form.Input form) → Asks words (Form.Load rounds) → A
no_load words form rounds A asks also = absurd (let e : ◌≡◌ {A = Option Form} (Some (Form.Input form)) (Some (Form.Load rounds)) = sym asks ∙ also in cc)
