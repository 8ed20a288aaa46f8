-- Laws of the parts of a term.
use Rattle.std.proofs.Common.{◌≡◌, ℕ, Bool, true, false, ◌==◌, List, [], ◌∷◌, ◌++◌, if◌then◌else◌, refl, sym, ap, ap₂, ◌∙◌, subst, ◌⊎◌, inl, inr}
use Rattle.std.proofs.lemmas.Bool.{eq-eqb, ne_eqb, cases_eq}
use Rattle.uc_term.specs.declared.node.Sym.{Sym}
use Rattle.uc_term.specs.Tree.{Tree, var, app, Trees, none, more, count}
use Rattle.uc_order.specs.Laws.{pair_of}
use Rattle.uc_order.specs.Members.{Each}
use Rattle.uc_ac.specs.Reordered.{IsTaken, taken_first, taken_later, IsReordered, no_element, one_element}
use Rattle.uc_ac.specs.AcEqual.{parts}
use Rattle.uc_ac.specs.SortedForm.{nested}
use Rattle.uc_ac.proofs.Reordering.{Each-append}

pub same_sym : (f g : Sym) → f.0 ≡ g.0 → f ≡ g
same_sym f g e = ap (λ (n : ℕ). let s : Sym = record { 0 = n } in s) e

-- whether two symbols are the same
pub which_sym : (f g : Sym) → (f ≡ g) ⊎ (f ≡ g → ⊥)
which_sym f g = go (cases_eq f.0 g.0)
  where
    go : (f.0 ≡ g.0) ⊎ (f.0 ≡ g.0 → ⊥) → (f ≡ g) ⊎ (f ≡ g → ⊥)
    go (inl e) = inl (same_sym f g e)
    go (inr n) = inr (λ e. n (ap (λ (s : Sym). s.0) e))

pub is_true : {A : Type 0} (p : Bool) (a b : A) → p ≡ true → (if p then a else b) ≡ a
is_true true a b q = refl
is_true false a b q = absurd cc

pub is_false : {A : Type 0} (p : Bool) (a b : A) → p ≡ false → (if p then a else b) ≡ b
is_false true a b q = absurd cc
is_false false a b q = refl

module _ (f : Sym) where
  pub parts-pair : (s t : Tree) → parts f (pair_of f s t) ≡ parts f s ++ parts f t
  parts-pair s t = is_true (f.0 == f.0) (parts f s ++ parts f t) (pair_of f s t ∷ []) (eq-eqb f.0 f.0 refl)

  -- a term with another head is its own part
  pub parts-other : (g : Sym) (ts : Trees) → (g ≡ f → ⊥) → parts f (app g ts) ≡ app g ts ∷ []
  parts-other g none n = refl
  parts-other g (more s none) n = refl
  parts-other g (more s (more t none)) n = is_false (g.0 == f.0) (parts f s ++ parts f t) (pair_of g s t ∷ []) (ne_eqb g.0 f.0 (λ e. n (same_sym g f e)))
  parts-other g (more s (more t (more u us))) n = refl

  -- a term that isn't headed by the binary f is its own part
  pub parts-single : (g : Sym) (ts : Trees) → (g ≡ f → count ts ≡ 2 → ⊥) → parts f (app g ts) ≡ app g ts ∷ []
  parts-single g none n = refl
  parts-single g (more s none) n = refl
  parts-single g (more s (more t none)) n = parts-other g (more s (more t none)) (λ e. n e refl)
  parts-single g (more s (more t (more u us))) n = refl

  -- What holds of parts: by cases on whether a term is put together by f.
  module _ (P : Tree → List Tree → Type 0) (one : (t : Tree) → parts f t ≡ t ∷ [] → P t (t ∷ [])) (two : (s t : Tree) → P s (parts f s) → P t (parts f t) → P (pair_of f s t) (parts f s ++ parts f t)) where
    pub parts_are : (t : Tree) → P t (parts f t)
    parts_are (var x) = one (var x) refl
    parts_are (app g none) = one (app g none) refl
    parts_are (app g (more s none)) = one (app g (more s none)) refl
    parts_are (app g (more s (more t none))) = go (which_sym g f) (parts_are s) (parts_are t)
      where
        go : (g ≡ f) ⊎ (g ≡ f → ⊥) → P s (parts f s) → P t (parts f t) → P (pair_of g s t) (parts f (pair_of g s t))
        go (inl e) p q = subst (λ (h : Sym). P (pair_of h s t) (parts f (pair_of h s t))) (sym e) (subst (P (pair_of f s t)) (sym (parts-pair s t)) (two s t p q))
        go (inr n) p q = let e = parts-other g (more s (more t none)) n in subst (P (pair_of g s t)) (sym e) (one (pair_of g s t) e)
    parts_are (app g (more s (more t (more u us)))) = one (app g (more s (more t (more u us)))) refl

  -- a part has no parts but itself
  abbrev pub IsPart : Tree → Type 0
  IsPart t = parts f t ≡ t ∷ []

  pub are_parts : (t : Tree) → Each IsPart (parts f t)
  are_parts = parts_are (λ t ts. Each IsPart ts) (λ t e. (e, tt)) (λ s t p q. Each-append IsPart (parts f s) (parts f t) p q)

  -- parts put together are the parts
  pub parts-nested : (t : Tree) (ts : List Tree) → Each IsPart (t ∷ ts) → parts f (nested f (t ∷ ts)) ≡ t ∷ ts
  parts-nested t [] e = e.0
  parts-nested t (u ∷ us) e = parts-pair t (nested f (u ∷ us)) ∙ ap₂ (λ (xs ys : List Tree). xs ++ ys) e.0 (parts-nested u us e.1)

-- there is an element, and there are two
pub data HasOne : List Tree → Type 0 where
  has_one : {t : Tree} {ts : List Tree} → HasOne (t ∷ ts)

pub data HasTwo : List Tree → Type 0 where
  has_two : {t u : Tree} {ts : List Tree} → HasTwo (t ∷ u ∷ ts)

one-append : {xs : List Tree} (ys : List Tree) → HasOne xs → HasOne (xs ++ ys)
one-append ys has_one = has_one

pub two-append : {xs ys : List Tree} → HasOne xs → HasOne ys → HasTwo (xs ++ ys)
two-append (has_one {ts = []}) has_one = has_two
two-append (has_one {ts = u ∷ us}) h = has_two

pub parts_one : (f : Sym) (t : Tree) → HasOne (parts f t)
parts_one f = parts_are f (λ t ts. HasOne ts) (λ t e. has_one) (λ s t p q. one-append (parts f t) p)

taken_one : {x : Tree} {xs ys : List Tree} → IsTaken x xs ys → HasOne xs
taken_one taken_first = has_one
taken_one (taken_later p) = has_one

taken_two : {x : Tree} {xs ys : List Tree} → IsTaken x xs ys → HasOne ys → HasTwo xs
taken_two taken_first has_one = has_two
taken_two (taken_later p) h = go (taken_one p)
  where
    go : {y : Tree} {zs : List Tree} → HasOne zs → HasTwo (y ∷ zs)
    go has_one = has_two

pub reordered_two : {xs ys : List Tree} → IsReordered xs ys → HasTwo xs → HasTwo ys
reordered_two no_element h = elim h [ ]
reordered_two (one_element p no_element) h = elim h [ ]
reordered_two (one_element p (one_element q r)) has_two = taken_two p (taken_one q)
