-- The first fact that is found for a term and is such a fact is the least one.
use Rattle.std.proofs.Common.{◌≡◌, ℕ, ◌==◌, ◌||◌, ◌+◌, ◌≤◌, Bool, true, false, List, [], ◌∷◌, Some, None, Option, unwrap_or, if◌then◌else◌, refl, sym, ap, ◌∙◌, ◌⊎◌, inl, inr, subst, arith}
use Rattle.std.proofs.lemmas.Bool.{eqb-true, eq-eqb}
use Rattle.uc_term.specs.declared.node.Sym.{Sym}
use Rattle.uc_term.specs.declared.equation.Equation.{Equation}
use Rattle.uc_term.specs.declared.equation.Side.{Side}
use Rattle.uc_term.specs.declared.equation.Side.TheVariants.{Left, Right}
use Rattle.uc_term.specs.Equations.{side_of}
use Rattle.uc_term.specs.Subst.{found, image, domain}
use Rattle.uc_term.specs.Tree.{Tree, var, apply}
use Rattle.uc_term.specs.Variables.{is_among, variables, firsts, firsts_after}
use Rattle.uc_term.proofs.Agree.{same_if}
use Rattle.uc_unify.specs.Matching.{IsMatch}
use Rattle.uc_order.specs.Laws.{pair_of}
use Rattle.uc_fact.specs.declared.index.Found.{Found}
use Rattle.uc_fact.specs.Live.{Live, Rule, RiseFrom, AreRising, fact_at, rule_of, rules_of}
use Rattle.uc_fact.specs.Retrieval.{found_by, FirstThat, accepted, not_accepted}
use Rattle.uc_fact.proofs.Occurring.{either, among}
use Rattle.uc_ac.specs.declared.ac_law.AcLaw.{AcLaw}
use Rattle.uc_ac.specs.declared.ac_law.AcLaw.TheVariants.{Assoc, Comm, Extended}
use Rattle.uc_ac.specs.AcLaw.{AreSides, IsLaw}
use Rattle.uc_ac.specs.AcFacts.{IsFactThat}
use Rattle.uc_ac.specs.Found.{HasInstance, IsInstanceOf}
use Rattle.uc_ac.specs.Joining.{IsLeastThat}
use Rattle.uc_ac.proofs.Exchanging.{assoc_instance, comm_instance, extended_instance}

-- a substitution as pairs for the variables of a term
right : (a b : Bool) → b ≡ true → (a || b) ≡ true
right true b e = refl
right false b e = e

both : {A : Type 0} (b : Bool) → b ≡ true → b ≡ false → A
both true e f = absurd cc
both false e f = absurd cc

neither_true : (a b : Bool) → a ≡ false → b ≡ false → (a || b) ≡ false
neither_true false b e f = f
neither_true true b e f = absurd cc

among_firsts : (known xs : List ℕ) (y : ℕ) → is_among y xs ≡ true → is_among y known ≡ false → is_among y (firsts_after known xs) ≡ true
among_firsts known [] y h n = absurd cc
among_firsts known (x ∷ xs) y h n = go (is_among x known) refl (among_firsts known xs y) (among_firsts (x ∷ known) xs y) (y == x) refl (either (y == x) (is_among y xs) h)
  where
    go : (b : Bool) → is_among x known ≡ b → (is_among y xs ≡ true → is_among y known ≡ false → is_among y (firsts_after known xs) ≡ true) → (is_among y xs ≡ true → is_among y (x ∷ known) ≡ false → is_among y (firsts_after (x ∷ known) xs) ≡ true) → (c : Bool) → (y == x) ≡ c → ((y == x) ≡ true) ⊎ (is_among y xs ≡ true) → is_among y (if b then firsts_after known xs else x ∷ firsts_after (x ∷ known) xs) ≡ true
    go true e f g c d (inl s) = both (is_among y known) (ap (λ z. is_among z known) (eqb-true y x s) ∙ e) n
    go true e f g c d (inr s) = f s n
    go false e f g true d s = ap (λ b. b || is_among y (firsts_after (x ∷ known) xs)) d
    go false e f g false d (inl s) = both (y == x) s d
    go false e f g false d (inr s) = right (y == x) (is_among y (firsts_after (x ∷ known) xs)) (g s (neither_true (y == x) (is_among y known) d n))

abbrev pairs_for : (ℕ → Tree) → List ℕ → List (ℕ × Tree)
pairs_for σ [] = []
pairs_for σ (x ∷ xs) = (x, σ x) ∷ pairs_for σ xs

domain_for : (σ : ℕ → Tree) (xs : List ℕ) → domain (pairs_for σ xs) ≡ xs
domain_for σ [] = refl
domain_for σ (x ∷ xs) = ap (λ l. x ∷ l) (domain_for σ xs)

found_for : (σ : ℕ → Tree) (xs : List ℕ) (x : ℕ) → is_among x xs ≡ true → found (pairs_for σ xs) x ≡ Some (σ x)
found_for σ [] x h = absurd cc
found_for σ (y ∷ ys) x h = go (y == x) refl (found_for σ ys x) (either (x == y) (is_among x ys) h)
  where
    go : (b : Bool) → (y == x) ≡ b → (is_among x ys ≡ true → found (pairs_for σ ys) x ≡ Some (σ x)) → ((x == y) ≡ true) ⊎ (is_among x ys ≡ true) → (if b then Some (σ y) else found (pairs_for σ ys) x) ≡ Some (σ x)
    go true e rest s = ap (λ z. Some (σ z)) (eqb-true y x e)
    go false e rest (inl s) = both (y == x) (eq-eqb y x (sym (eqb-true x y s))) e
    go false e rest (inr s) = rest s

match_from : (σ : ℕ → Tree) (from t : Tree) → apply σ from ≡ t → IsMatch from t (pairs_for σ (firsts (variables from)))
match_from σ from t e = record {
  gives = same_if (image (pairs_for σ (firsts (variables from)))) σ from (λ x o. ap (λ p. unwrap_or p (var x)) (found_for σ (firsts (variables from)) x (among_firsts [] (variables from) x (among x from o) refl))) ∙ e;
  pairs_are = domain_for σ (firsts (variables from));
}

abbrev pick : Bool → Equation → Option Equation → Option Equation
pick b e o = if b then Some e else o

number_from : (n : ℕ) (fs : List Live) (k : ℕ) (e : Equation) → RiseFrom n fs → fact_at fs k ≡ Some e → n ≤ k
number_from n [] k e r h = absurd cc
number_from n (f ∷ fs) k e r h = go (f.number == k) refl (number_from (f.number + 1) fs k e r.1) h
  where
    go : (b : Bool) → (f.number == k) ≡ b → (fact_at fs k ≡ Some e → f.number + 1 ≤ k) → pick b f.equation (fact_at fs k) ≡ Some e → n ≤ k
    go true q rest h = let s : f.number ≡ k = eqb-true f.number k q in let l = r.0 in omega arith
    go false q rest h = let s = rest h in let l = r.0 in omega arith

here : (f : Live) (fs : List Live) → fact_at (f ∷ fs) f.number ≡ Some f.equation
here f fs = ap (λ b. pick b f.equation (fact_at fs f.number)) (eq-eqb f.number f.number refl)

module _ (law : AcLaw) (symbol : Sym) (t : Tree) (matched : IsInstanceOf law symbol t) (live : List Live) where
  abbrev Is : Equation → Type 0
  Is = IsLaw law symbol

  abbrev pub Passes : Found → Type 0
  Passes found = IsFactThat live law symbol found.fact

  -- these facts are among those that live
  abbrev Among : List Live → Type 0
  Among fs = (k : ℕ) (e : Equation) → fact_at fs k ≡ Some e → fact_at live k ≡ Some e

  among_rest : (n : ℕ) (f : Live) (fs : List Live) → RiseFrom n (f ∷ fs) → Among (f ∷ fs) → Among fs
  among_rest n f fs r a k e h = a k e (go (f.number == k) refl)
    where
      go : (b : Bool) → (f.number == k) ≡ b → pick (f.number == k) f.equation (fact_at fs k) ≡ Some e
      go true q = absurd (let s : f.number ≡ k = eqb-true f.number k q in let l = number_from (f.number + 1) fs k e r.1 h in omega arith)
      go false q = ap (λ b. pick b f.equation (fact_at fs k)) q ∙ h

  abbrev Refuses : Rule → Type 0
  Refuses rule = (pairs : List (ℕ × Tree)) → IsMatch rule.from t pairs → Passes (found_by rule pairs) → ⊥

  no_side : (f : Live) (side : Side) → Refuses (rule_of side f) → (σ : ℕ → Tree) → apply σ (side_of side f.equation) ≡ t → Passes (found_by (rule_of side f) []) → ⊥
  no_side f side n σ e p = n (pairs_for σ (firsts (variables (side_of side f.equation)))) (match_from σ (side_of side f.equation) t e) p

  -- a fact both of whose sides are refused isn't such a fact
  neither : (f : Live) → fact_at live f.number ≡ Some f.equation → Refuses (rule_of Left f) → Refuses (rule_of Right f) → Is f.equation → ⊥
  neither f at a b i = go (matched f.equation i)
    where
      go : HasInstance t f.equation → ⊥
      go (Left, σ, e) = no_side f Left a σ e (f.equation, at, i)
      go (Right, σ, e) = no_side f Right b σ e (f.equation, at, i)

  later : (f : Live) (fs : List Live) → fact_at live f.number ≡ Some f.equation → Refuses (rule_of Left f) → Refuses (rule_of Right f) → (k : ℕ) → IsFactThat (f ∷ fs) law symbol k → IsFactThat fs law symbol k
  later f fs at a b k i = go (f.number == k) i.1
    where
      go : (c : Bool) → pick c f.equation (fact_at fs k) ≡ Some i.0 → IsFactThat fs law symbol k
      go true h = let same : f.equation ≡ i.0 = cc in absurd (neither f at a b (subst Is (sym same) i.2))
      go false h = (i.0, h, i.2)

  passed : (rules : List Rule) (found : Found) → FirstThat Passes t rules (Some found) → Passes found
  passed [] found f = elim f [ ]
  passed (rule ∷ rules) _ (accepted m a) = a
  passed (rule ∷ rules) found (not_accepted n f) = passed rules found f

  least : (n : ℕ) (fs : List Live) → RiseFrom n fs → Among fs → (found : Found) → FirstThat Passes t (rules_of fs) (Some found) → (k : ℕ) → IsFactThat fs law symbol k → found.fact ≤ k
  least n [] r a found f k i = elim f [ ]
  least n (f ∷ fs) r a _ (accepted m p) k i = number_from f.number (f ∷ fs) k i.0 (omega arith, r.1) i.1
  least n (f ∷ fs) r a _ (not_accepted x (accepted m p)) k i = number_from f.number (f ∷ fs) k i.0 (omega arith, r.1) i.1
  least n (f ∷ fs) r a found (not_accepted x (not_accepted y rest)) k i = least (f.number + 1) fs r.1 (among_rest n f fs r a) found rest k (later f fs (a f.number f.equation (here f fs)) x y k i)

  none_of : (n : ℕ) (fs : List Live) → RiseFrom n fs → Among fs → FirstThat Passes t (rules_of fs) None → (k : ℕ) → IsFactThat fs law symbol k → ⊥
  none_of n [] r a f k i = absurd (let e = i.1 in cc)
  none_of n (f ∷ fs) r a (not_accepted x (not_accepted y rest)) k i = none_of (f.number + 1) fs r.1 (among_rest n f fs r a) rest k (later f fs (a f.number f.equation (here f fs)) x y k i)

  pub least_found : AreRising live → (found : Found) → FirstThat Passes t (rules_of live) (Some found) → IsLeastThat live law symbol found.fact
  least_found r found f = (passed (rules_of live) found f, λ k h i. let l = least 0 live r (λ k e h. h) found f k i in omega arith)

  pub none_found : AreRising live → FirstThat Passes t (rules_of live) None → (k : ℕ) → IsFactThat live law symbol k → ⊥
  none_found r f k i = none_of 0 live r (λ k e h. h) f k i

-- the terms for which the three facts are found
by_sides : (law : AcLaw) (f : Sym) (t : Tree) → ((s u : Tree) → AreSides f law s u → (σ : ℕ → Tree) × (apply σ s ≡ t)) → IsInstanceOf law f t
by_sides law f t σ e (inl i) = let r = σ e.left e.right i in (Left, r.0, r.1)
by_sides law f t σ e (inr i) = let r = σ e.right e.left i in (Right, r.0, r.1)

pub assoc_found : (f : Sym) → IsInstanceOf Assoc f (pair_of f (pair_of f (var 0) (var 1)) (var 2))
assoc_found f = by_sides Assoc f (pair_of f (pair_of f (var 0) (var 1)) (var 2)) (λ s u i. let r = assoc_instance f (var 0) (var 1) (var 2) s u i in (r.0, sym r.1))

pub comm_found : (f : Sym) → IsInstanceOf Comm f (pair_of f (var 0) (var 1))
comm_found f = by_sides Comm f (pair_of f (var 0) (var 1)) (λ s u i. let r = comm_instance f (var 0) (var 1) (var 1) s u i in (r.0, sym r.1))

pub extended_found : (f : Sym) → IsInstanceOf Extended f (pair_of f (var 0) (pair_of f (var 1) (var 2)))
extended_found f = by_sides Extended f (pair_of f (var 0) (pair_of f (var 1) (var 2))) (λ s u i. let r = extended_instance f (var 0) (var 1) (var 2) s u i in (r.0, sym r.1))
