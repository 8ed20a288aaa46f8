-- The facts of some entries that live, listed one by one.
use Rattle.std.proofs.Common.{◌≡◌, ℕ, ◌+◌, ◌≤◌, true, false, List, [], ◌∷◌, ◌++◌, length, drop, slice_get, Some, refl, sym, ap, ◌∙◌, arith, append_assoc, append-nil}
use Rattle.uc_term.specs.declared.equation.Equation.{Equation}
use Rattle.uc_fact.specs.declared.fact.Fact.{Fact}
use Rattle.uc_fact.specs.Live.{equation_of}
use Rattle.uc_disc.specs.Numbered.{lives, live_of}
use Rattle.uc_shelf.specs.declared.entry.Entry.{Entry}
use Rattle.uc_shelf.specs.declared.entry.Entry.TheVariants.{Born, Dies}
use Rattle.uc_shelf.specs.Entries.{born, is_dead, living}
use Rattle.uc_shelf.proofs.Viewed.{drop_at, past_end, living_split}

pub lives_append : (xs ys : List (ℕ × Equation)) → lives (xs ++ ys) ≡ lives xs ++ lives ys
lives_append [] ys = refl
lives_append (x ∷ xs) ys = ap (λ z. live_of x ∷ z) (lives_append xs ys)

-- what is listed so far, with what is to come
pub record Listed (es : List Entry) (base k number : ℕ) (list : List (ℕ × Equation)) : Type 0 where
  pub few : number ≤ base + k
  pub short : length list ≤ k
  pub all : lives list ++ living es number (drop k es) ≡ living es base es

pub listed_starts : (es : List Entry) (base : ℕ) (list : List (ℕ × Equation)) → list ≡ [] → Listed es base 0 base list
listed_starts es base list e = record { few = omega arith; short = omega (arith, ap length e); all = ap (λ l. lives l ++ living es base es) e }

pub listed_goes_on : (es : List Entry) (base k number n : ℕ) (e : Entry) (list new : List (ℕ × Equation)) → Some e ≡ slice_get es k → n ≡ number + length (born (e ∷ [])) → length (born (e ∷ [])) ≤ 1 → lives new ≡ lives list ++ living es number (e ∷ []) → length new ≤ length list + 1 → Listed es base k number list → Listed es base (k + 1) n new
listed_goes_on es base k number n e list new at c one m s l = record {
  few = (let h = l.few in omega arith);
  short = (let h = l.short in omega arith);
  all =
      ap (λ x. x ++ living es n (drop (k + 1) es)) m ∙ append_assoc (lives list) (living es number (e ∷ [])) (living es n (drop (k + 1) es))
      ∙ ap (λ x. lives list ++ (living es number (e ∷ []) ++ living es x (drop (k + 1) es))) c
      ∙ ap (λ x. lives list ++ x) (sym (ap (living es number) (drop_at es k e at) ∙ living_split es number e (drop (k + 1) es))) ∙ l.all;
}

pub listed_all : (es : List Entry) (base k number : ℕ) (list : List (ℕ × Equation)) → length es ≤ k → Listed es base k number list → lives list ≡ living es base es
listed_all es base k number list h l = sym (append-nil (lives list)) ∙ ap (λ x. lives list ++ living es number x) (sym (past_end es k h)) ∙ l.all

dead_adds_none : (all : List Entry) (n : ℕ) (e : Entry) → is_dead all n ≡ true → living all n (e ∷ []) ≡ []
dead_adds_none all n (Born f) h = rw h refl
dead_adds_none all n (Dies f k) h = refl

born_adds_one : (all : List Entry) (n : ℕ) (f : Fact) → is_dead all n ≡ false → living all n (Born f ∷ []) ≡ record { number = n; equation = equation_of f } ∷ []
born_adds_one all n f h = rw h refl

pub none_added : (all : List Entry) (n : ℕ) (e : Entry) (old : List (ℕ × Equation)) → living all n (e ∷ []) ≡ [] → lives old ≡ lives old ++ living all n (e ∷ [])
none_added all n e old h = sym (ap (λ l. lives old ++ l) h ∙ append-nil (lives old))

pub dead_added : (all : List Entry) (n : ℕ) (e : Entry) (old : List (ℕ × Equation)) → is_dead all n ≡ true → lives old ≡ lives old ++ living all n (e ∷ [])
dead_added all n e old h = none_added all n e old (dead_adds_none all n e h)

pub born_added : (all : List Entry) (n : ℕ) (e : Entry) (f : Fact) (q : Equation) (old new : List (ℕ × Equation)) → e ≡ Born f → is_dead all n ≡ false → new ≡ old ++ (n, q) ∷ [] → q ≡ equation_of f → lives new ≡ lives old ++ living all n (e ∷ [])
born_added all n e f q old new b a m s =
    ap lives m ∙ lives_append old ((n, q) ∷ [])
    ∙ ap (λ x. lives old ++ record { number = n; equation = x } ∷ []) s
    ∙ ap (λ l. lives old ++ l) (sym (ap (λ x. living all n (x ∷ [])) b ∙ born_adds_one all n f a))
