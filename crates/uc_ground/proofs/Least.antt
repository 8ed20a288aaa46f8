-- The first that is found and passes the test is the least fact of which two terms are the two sides of an instance.
use Rattle.std.proofs.Common.{◌≡◌, ℕ, ◌==◌, ◌+◌, ◌≤◌, Bool, true, false, List, [], ◌∷◌, Some, None, Option, if◌then◌else◌, refl, sym, ap, ◌∙◌, arith}
use Rattle.std.proofs.lemmas.Bool.{eqb-true, eq-eqb}
use Rattle.uc_term.specs.declared.equation.Equation.{Equation}
use Rattle.uc_term.specs.declared.equation.Side.{Side}
use Rattle.uc_term.specs.declared.equation.Side.TheVariants.{Left, Right}
use Rattle.uc_term.specs.Equations.{side_of, other_side_of}
use Rattle.uc_term.specs.Tree.{Tree, apply}
use Rattle.uc_term.specs.Variables.{variables, firsts}
use Rattle.uc_unify.specs.Matching.{IsMatch}
use Rattle.uc_fact.specs.declared.index.Found.{Found}
use Rattle.uc_fact.specs.Live.{Live, Rule, RiseFrom, AreRising, fact_at, rule_of, rules_of}
use Rattle.uc_fact.specs.Retrieval.{found_by, FirstThat, accepted, not_accepted}
use Rattle.uc_rewrite.proofs.Completing.{pairs_for, match_from}
use Rattle.uc_ground.specs.Joining.{IsInstanceFrom, IsLeastInstance, IsNoInstance}

abbrev pick : Bool → Equation → Option Equation → Option Equation
pick b e o = if b then Some e else o

number_from : (n : ℕ) (fs : List Live) (k : ℕ) (e : Equation) → RiseFrom n fs → fact_at fs k ≡ Some e → n ≤ k
number_from n [] k e r h = absurd cc
number_from n (f ∷ fs) k e r h = go (f.number == k) refl (number_from (f.number + 1) fs k e r.1) h
  where
    go : (b : Bool) → (f.number == k) ≡ b → (fact_at fs k ≡ Some e → f.number + 1 ≤ k) → pick b f.equation (fact_at fs k) ≡ Some e → n ≤ k
    go true q rest h = let s : f.number ≡ k = eqb-true f.number k q in let l = r.0 in omega arith
    go false q rest h = let s = rest h in let l = r.0 in omega arith

here : (f : Live) (fs : List Live) → fact_at (f ∷ fs) f.number ≡ Some f.equation
here f fs = ap (λ b. pick b f.equation (fact_at fs f.number)) (eq-eqb f.number f.number refl)

module _ (live : List Live) (s t : Tree) where
  abbrev pub Passes : Found → Type 0
  Passes found = IsInstanceFrom live s t found.fact found.side

  -- these facts are among those that live
  abbrev Among : List Live → Type 0
  Among fs = (k : ℕ) (e : Equation) → fact_at fs k ≡ Some e → fact_at live k ≡ Some e

  among_rest : (n : ℕ) (f : Live) (fs : List Live) → RiseFrom n (f ∷ fs) → Among (f ∷ fs) → Among fs
  among_rest n f fs r a k e h = a k e (go (f.number == k) refl)
    where
      go : (b : Bool) → (f.number == k) ≡ b → pick (f.number == k) f.equation (fact_at fs k) ≡ Some e
      go true q = absurd (let s : f.number ≡ k = eqb-true f.number k q in let l = number_from (f.number + 1) fs k e r.1 h in omega arith)
      go false q = ap (λ b. pick b f.equation (fact_at fs k)) q ∙ h

  abbrev Refuses : Rule → Type 0
  Refuses rule = (pairs : List (ℕ × Tree)) → IsMatch rule.from s pairs → Passes (found_by rule pairs) → ⊥

  -- a side that is refused has no such instance
  no_side : (f : Live) (side : Side) → fact_at live f.number ≡ Some f.equation → Refuses (rule_of side f) → (σ : ℕ → Tree) → s ≡ apply σ (side_of side f.equation) → t ≡ apply σ (other_side_of side f.equation) → ⊥
  no_side f side at n σ l r = n (pairs_for σ (firsts (variables (side_of side f.equation)))) (match_from σ (side_of side f.equation) s (sym l)) (record { equation = f.equation; equation_is = at; σ = σ; left_is = l; right_is = r })

  neither : (f : Live) → fact_at live f.number ≡ Some f.equation → Refuses (rule_of Left f) → Refuses (rule_of Right f) → (side : Side) (σ : ℕ → Tree) (e : Equation) → f.equation ≡ e → s ≡ apply σ (side_of side e) → t ≡ apply σ (other_side_of side e) → ⊥
  neither f at a b Left σ e is l r = no_side f Left at a σ (l ∙ ap (λ z. apply σ (side_of Left z)) (sym is)) (r ∙ ap (λ z. apply σ (other_side_of Left z)) (sym is))
  neither f at a b Right σ e is l r = no_side f Right at b σ (l ∙ ap (λ z. apply σ (side_of Right z)) (sym is)) (r ∙ ap (λ z. apply σ (other_side_of Right z)) (sym is))

  -- an instance of a fact of these, where the first one isn't it
  later : (f : Live) (fs : List Live) → fact_at live f.number ≡ Some f.equation → Refuses (rule_of Left f) → Refuses (rule_of Right f) → (k : ℕ) (side : Side) → IsInstanceFrom (f ∷ fs) s t k side → IsInstanceFrom fs s t k side
  later f fs at a b k side i = go (f.number == k) i.equation_is
    where
      same : (e : Equation) → Some f.equation ≡ Some e → f.equation ≡ e
      same e h = cc

      go : (c : Bool) → pick c f.equation (fact_at fs k) ≡ Some i.equation → IsInstanceFrom fs s t k side
      go true h = absurd (neither f at a b side i.σ i.equation (same i.equation h) i.left_is i.right_is)
      go false h = record { equation = i.equation; equation_is = h; σ = i.σ; left_is = i.left_is; right_is = i.right_is }

  passed : (rules : List Rule) (found : Found) → FirstThat Passes s rules (Some found) → Passes found
  passed [] found f = elim f [ ]
  passed (rule ∷ rules) _ (accepted m a) = a
  passed (rule ∷ rules) found (not_accepted n f) = passed rules found f

  least : (n : ℕ) (fs : List Live) → RiseFrom n fs → Among fs → (found : Found) → FirstThat Passes s (rules_of fs) (Some found) → (k : ℕ) (side : Side) → IsInstanceFrom fs s t k side → found.fact ≤ k
  least n [] r a found f k side i = elim f [ ]
  least n (f ∷ fs) r a _ (accepted m p) k side i = number_from f.number (f ∷ fs) k i.equation (omega arith, r.1) i.equation_is
  least n (f ∷ fs) r a _ (not_accepted x (accepted m p)) k side i = number_from f.number (f ∷ fs) k i.equation (omega arith, r.1) i.equation_is
  least n (f ∷ fs) r a found (not_accepted x (not_accepted y rest)) k side i = least (f.number + 1) fs r.1 (among_rest n f fs r a) found rest k side (later f fs (a f.number f.equation (here f fs)) x y k side i)

  none_of : (n : ℕ) (fs : List Live) → RiseFrom n fs → Among fs → FirstThat Passes s (rules_of fs) None → (k : ℕ) (side : Side) → IsInstanceFrom fs s t k side → ⊥
  none_of n [] r a f k side i = absurd (let e = i.equation_is in cc)
  none_of n (f ∷ fs) r a (not_accepted x (not_accepted y rest)) k side i = none_of (f.number + 1) fs r.1 (among_rest n f fs r a) rest k side (later f fs (a f.number f.equation (here f fs)) x y k side i)

  pub least_found : AreRising live → (found : Found) → FirstThat Passes s (rules_of live) (Some found) → IsLeastInstance live s t found.fact
  least_found r found f = record {
    is_one = record { side = found.side; from = passed (rules_of live) found f };
    least = λ k i. least 0 live r (λ k e h. h) found f k i.side i.from;
  }

  pub none_found : AreRising live → FirstThat Passes s (rules_of live) None → IsNoInstance live s t
  none_found r f k i = none_of 0 live r (λ k e h. h) f k i.side i.from
