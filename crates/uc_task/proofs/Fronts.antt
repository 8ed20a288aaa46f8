-- The entries of a front, one by one.
use Rattle.std.proofs.Common.{◌≡◌, ℕ, ◌+◌, ◌≤◌, true, false, List, [], ◌∷◌, ◌++◌, length, drop, map, slice_get, Some, refl, sym, ap, ◌∙◌, arith, append_assoc, append-nil}
use Rattle.std.proofs.lemmas.List.{map-append}
use Rattle.uc_term.specs.declared.equation.Equation.{Equation}
use Rattle.uc_fact.specs.declared.fact.Fact.{Fact}
use Rattle.uc_shelf.specs.declared.entry.Entry.{Entry}
use Rattle.uc_shelf.specs.declared.entry.Entry.TheVariants.{Born, Dies}
use Rattle.uc_shelf.specs.Entries.{born, is_dead, living, live}
use Rattle.uc_shelf.proofs.Viewed.{drop_at, past_end, living_split}
use Rattle.uc_task.specs.declared.live.LiveFact.{LiveFact}
use Rattle.uc_task.specs.Living.{live_of}

-- THE FACTS THAT LIVE

-- what is listed so far, with what is to come
pub record Listed (es : List Entry) (k number : ℕ) (list : List LiveFact) : Type 0 where
  pub few : number ≤ k
  pub all : map live_of list ++ living es number (drop k es) ≡ live es

pub listed_starts : (es : List Entry) (list : List LiveFact) → list ≡ [] → Listed es 0 0 list
listed_starts es list e = record { few = omega arith; all = ap (λ l. map live_of l ++ living es 0 es) e }

pub listed_goes_on : (es : List Entry) (k number n : ℕ) (e : Entry) (list new : List LiveFact) → Some e ≡ slice_get es k → n ≡ number + length (born (e ∷ [])) → length (born (e ∷ [])) ≤ 1 → map live_of new ≡ map live_of list ++ living es number (e ∷ []) → Listed es k number list → Listed es (k + 1) n new
listed_goes_on es k number n e list new at c one m l = record {
  few = (let h = l.few in omega arith);
  all =
      ap (λ x. x ++ living es n (drop (k + 1) es)) m ∙ append_assoc (map live_of list) (living es number (e ∷ [])) (living es n (drop (k + 1) es))
      ∙ ap (λ x. map live_of list ++ (living es number (e ∷ []) ++ living es x (drop (k + 1) es))) c
      ∙ ap (λ x. map live_of list ++ x) (sym (ap (living es number) (drop_at es k e at) ∙ living_split es number e (drop (k + 1) es))) ∙ l.all;
}

pub listed_all : (es : List Entry) (k number : ℕ) (list : List LiveFact) → length es ≤ k → Listed es k number list → map live_of list ≡ live es
listed_all es k number list h l = sym (append-nil (map live_of list)) ∙ ap (λ x. map live_of list ++ living es number x) (sym (past_end es k h)) ∙ l.all

pub dead_adds_none : (all : List Entry) (n : ℕ) (e : Entry) → is_dead all n ≡ true → living all n (e ∷ []) ≡ []
dead_adds_none all n (Born f) h = rw h refl
dead_adds_none all n (Dies f k) h = refl

pub born_adds_one : (all : List Entry) (n : ℕ) (f : Fact) → is_dead all n ≡ false → living all n (Born f ∷ []) ≡ record { number = n; equation = record { left = f.left; right = f.right } } ∷ []
born_adds_one all n f h = rw h refl

pub born_added : (all : List Entry) (n : ℕ) (e : Entry) (f : Fact) (q : Equation) (old new : List LiveFact) → e ≡ Born f → is_dead all n ≡ false → new ≡ old ++ record { number = n; equation = q } ∷ [] → q ≡ record { left = f.left; right = f.right } → map live_of new ≡ map live_of old ++ living all n (e ∷ [])
born_added all n e f q old new b a m s =
    ap (map live_of) m ∙ map-append live_of old (record { number = n; equation = q } ∷ [])
    ∙ ap (λ x. map live_of old ++ record { number = n; equation = x } ∷ []) s
    ∙ ap (λ l. map live_of old ++ l) (sym (ap (λ x. living all n (x ∷ [])) b ∙ born_adds_one all n f a))

pub none_added : (all : List Entry) (n : ℕ) (e : Entry) (old : List LiveFact) → living all n (e ∷ []) ≡ [] → map live_of old ≡ map live_of old ++ living all n (e ∷ [])
none_added all n e old h = sym (ap (λ l. map live_of old ++ l) h ∙ append-nil (map live_of old))
