-- What completed matches give.
use Rattle.std.proofs.Common.{◌≡◌, ℕ, ◌==◌, ◌||◌, Bool, true, false, List, [], ◌∷◌, Some, None, unwrap_or, if◌then◌else◌, refl, sym, ap, ◌∙◌, ◌⊎◌, inl, inr}
use Rattle.std.proofs.lemmas.Bool.{eqb-true, eq-eqb}
use Rattle.uc_term.specs.declared.node.Sym.{Sym}
use Rattle.uc_term.specs.Tree.{Tree, var, app, none, apply}
use Rattle.uc_term.specs.Subst.{found, image, domain}
use Rattle.uc_term.specs.Variables.{Occurs, is_among, variables, firsts, firsts_after}
use Rattle.uc_term.proofs.Agree.{same_if}
use Rattle.uc_term.proofs.Pairs.{known, found_among, found_not_among}
use Rattle.uc_unify.specs.Matching.{IsMatch}
use Rattle.uc_fact.specs.Ordered.{IsCompleted}
use Rattle.uc_fact.proofs.Occurring.{either, occurs, among}
use Rattle.uc_fact.proofs.Matched.{first_is_one}
use Rattle.uc_rewrite.specs.Completed.{completed}

right : (a b : Bool) → b ≡ true → (a || b) ≡ true
right true b e = refl
right false b e = e

both : {A : Type 0} (b : Bool) → b ≡ true → b ≡ false → A
both true e f = absurd cc
both false e f = absurd cc

neither : (a b : Bool) → a ≡ false → b ≡ false → (a || b) ≡ false
neither false b e f = f
neither true b e f = absurd cc

-- what is in a list and isn't known yet is among the first ones
pub among_firsts : (known xs : List ℕ) (y : ℕ) → is_among y xs ≡ true → is_among y known ≡ false → is_among y (firsts_after known xs) ≡ true
among_firsts known [] y h n = absurd cc
among_firsts known (x ∷ xs) y h n = go (is_among x known) refl (among_firsts known xs y) (among_firsts (x ∷ known) xs y) (y == x) refl (either (y == x) (is_among y xs) h)
  where
    go : (b : Bool) → is_among x known ≡ b → (is_among y xs ≡ true → is_among y known ≡ false → is_among y (firsts_after known xs) ≡ true) → (is_among y xs ≡ true → is_among y (x ∷ known) ≡ false → is_among y (firsts_after (x ∷ known) xs) ≡ true) → (c : Bool) → (y == x) ≡ c → ((y == x) ≡ true) ⊎ (is_among y xs ≡ true) → is_among y (if b then firsts_after known xs else x ∷ firsts_after (x ∷ known) xs) ≡ true
    go true e f g c d (inl s) = both (is_among y known) (ap (λ z. is_among z known) (eqb-true y x s) ∙ e) n
    go true e f g c d (inr s) = f s n
    go false e f g true d s = ap (λ b. b || is_among y (firsts_after (x ∷ known) xs)) d
    go false e f g false d (inl s) = both (y == x) s d
    go false e f g false d (inr s) = right (y == x) (is_among y (firsts_after (x ∷ known) xs)) (g s (neither (y == x) (is_among y known) d n))

module _ (least : Sym) (from t : Tree) (pairs : List (ℕ × Tree)) (m : IsMatch from t pairs) where
  has_pair : (x : ℕ) → Occurs x from → found pairs x ≡ None → ⊥
  has_pair x o n =
      let h : is_among x (domain pairs) ≡ true = ap (is_among x) m.pairs_are ∙ among_firsts [] (variables from) x (among x from o) refl in
      both (is_among x (domain pairs)) h (found_not_among pairs x n)

  has_none : (x : ℕ) → (Occurs x from → ⊥) → found pairs x ≡ None
  has_none x n = go (known (found pairs x))
    where
      go : ((s : Tree) × (found pairs x ≡ Some s)) ⊎ (found pairs x ≡ None) → found pairs x ≡ None
      go (inr e) = e
      go (inl s) = absurd (n (occurs x from (first_is_one [] (variables from) x (sym (ap (is_among x) m.pairs_are) ∙ found_among pairs x s.0 s.1))))

  pub completes : (to : Tree) → IsCompleted least from to (completed least pairs)
  completes to x o n = ap (λ p. unwrap_or p (app least none)) (has_none x n)

  pub gives : apply (completed least pairs) from ≡ t
  gives = same_if (completed least pairs) (image pairs) from (λ x o. go x o (known (found pairs x))) ∙ m.gives
    where
      go : (x : ℕ) → Occurs x from → ((s : Tree) × (found pairs x ≡ Some s)) ⊎ (found pairs x ≡ None) → completed least pairs x ≡ image pairs x
      go x o (inl s) = ap (λ p. unwrap_or p (app least none)) s.1 ∙ sym (ap (λ p. unwrap_or p (var x)) s.1)
      go x o (inr n) = absurd (has_pair x o n)

-- the pairs that a substitution gives some variables
abbrev pub pairs_for : (ℕ → Tree) → List ℕ → List (ℕ × Tree)
pairs_for σ [] = []
pairs_for σ (x ∷ xs) = (x, σ x) ∷ pairs_for σ xs

domain_for : (σ : ℕ → Tree) (xs : List ℕ) → domain (pairs_for σ xs) ≡ xs
domain_for σ [] = refl
domain_for σ (x ∷ xs) = ap (λ l. x ∷ l) (domain_for σ xs)

found_for : (σ : ℕ → Tree) (xs : List ℕ) (x : ℕ) → is_among x xs ≡ true → found (pairs_for σ xs) x ≡ Some (σ x)
found_for σ [] x h = absurd cc
found_for σ (y ∷ ys) x h = go (y == x) refl (found_for σ ys x) (either (x == y) (is_among x ys) h)
  where
    go : (b : Bool) → (y == x) ≡ b → (is_among x ys ≡ true → found (pairs_for σ ys) x ≡ Some (σ x)) → ((x == y) ≡ true) ⊎ (is_among x ys ≡ true) → (if b then Some (σ y) else found (pairs_for σ ys) x) ≡ Some (σ x)
    go true e rest s = ap (λ z. Some (σ z)) (eqb-true y x e)
    go false e rest (inl s) = both (y == x) (eq-eqb y x (sym (eqb-true x y s))) e
    go false e rest (inr s) = rest s

-- an instance is a match
pub match_from : (σ : ℕ → Tree) (from t : Tree) → apply σ from ≡ t → IsMatch from t (pairs_for σ (firsts (variables from)))
match_from σ from t e = record {
  gives = same_if (image (pairs_for σ (firsts (variables from)))) σ from (λ x o. ap (λ p. unwrap_or p (var x)) (found_for σ (firsts (variables from)) x (among_firsts [] (variables from) x (among x from o) refl))) ∙ e;
  pairs_are = domain_for σ (firsts (variables from));
}
