-- Counts that rise one after the other.
use Rattle.std.proofs.Common.{◌≡◌, ℕ, ◌+◌, ◌<◌, ◌≤◌, ◌∙◌, List, ◌∷◌, get_or, drop, length, min, refl, sym, ap, arith}
use Rattle.std.proofs.lemmas.List.{drop_more}
use Rattle.std.proofs.Math.ListN.{drop_of_length-le}
use Rattle.m3_base.specs.Lists.Counting.{total}
use Rattle.m3_endpoint.specs.Counters.{most, Adds}

pub adds_none : (a : List ℕ) → Adds (λ g. 0) a a
adds_none a = record { size = refl; counts = λ g k le. omega arith }

pub adds_same : (f h : ℕ → ℕ) (a b : List ℕ) → ((g : ℕ) → f g ≡ h g) → Adds f a b → Adds h a b
adds_same f h a b e k = record { size = k.size; counts = λ g w le. k.counts g w le ∙ ap (λ n. min most (get_or a g 0 + n)) (e g) }

pub adds_both : (f h : ℕ → ℕ) (a b c : List ℕ) → Adds f a b → Adds h b c → Adds (λ g. f g + h g) a c
adds_both f h a b c j k = record {
  size = k.size ∙ j.size;
  counts = λ g w le.
      let first : get_or b g 0 ≡ min most (get_or a g 0 + f g) = j.counts g w le in
      let then' : get_or c g 0 ≡ min most (get_or b g 0 + h g) = k.counts g (let e = j.size in omega arith) (omega arith) in
      omega arith;
}

-- ---- a sum that is added element by element

-- when the rest is added to what there is now, the whole is added to what there was first
abbrev pub Left : (whole rest : ℕ → ℕ) (first now : List ℕ) → Type 0
Left whole rest first now = (last : List ℕ) → Adds rest now last → Adds whole first last

pub left_first : (whole : ℕ → ℕ) (first : List ℕ) → Left whole whole first first
left_first whole first last k = k

pub left_more : (whole rest f h : ℕ → ℕ) (first now next : List ℕ) → ((g : ℕ) → rest g ≡ f g + h g) → Left whole rest first now → Adds f now next → Left whole h first next
left_more whole rest f h first now next e l step last k = l last (adds_same (λ g. f g + h g) rest now last (λ g. sym (e g)) (adds_both f h now next last step k))

pub left_none : (whole rest : ℕ → ℕ) (first now : List ℕ) → ((g : ℕ) → rest g ≡ 0) → Left whole rest first now → Adds whole first now
left_none whole rest first now e l = l now (adds_same (λ g. 0) rest now now (λ g. sym (e g)) (adds_none now))

-- ---- over a slice

module _ {X : Type 0} (f : ℕ → X → ℕ) (whole : ℕ → ℕ) (xs : List X) (i : ℕ) (first now : List ℕ) where
  pub left_next : (x : X) (next : List ℕ) → i < length xs → x ≡ get_or xs i x → Left whole (λ g. total (f g) (drop i xs)) first now → Adds (λ g. f g x) now next → Left whole (λ g. total (f g) (drop (i + 1) xs)) first next
  left_next x next within is l step =
      left_more whole (λ g. total (f g) (drop i xs)) (λ g. f g x) (λ g. total (f g) (drop (i + 1) xs)) first now next
      (λ g. ap (total (f g)) (drop_more xs i x within ∙ ap (λ y. y ∷ drop (i + 1) xs) (sym is))) l step

  pub left_past : length xs ≤ i → Left whole (λ g. total (f g) (drop i xs)) first now → Adds whole first now
  left_past past l = left_none whole (λ g. total (f g) (drop i xs)) first now (λ g. ap (total (f g)) (drop_of_length-le xs past)) l
