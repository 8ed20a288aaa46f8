-- Where instances of two rules meet, they are instances of the rules' overlap.
use Rattle.std.proofs.Common.{◌≡◌, ℕ, zero, suc, ◌+◌, ◌-◌, ◌<◌, nat_lt, true, false, List, [], ◌∷◌, Some, option_and_then, refl, sym, ap, ap₂, ◌∙◌, subst, inl, inr, if◌then◌else◌, arith}
use Rattle.std.proofs.lemmas.Bool.Decides.{nat_tests}
use Rattle.uc_term.specs.Tree.{Tree, var, app, Trees, none, more, apply, subterm, put}
use Rattle.uc_term.specs.Path.{nth, at, put_at}
use Rattle.uc_term.specs.Variables.{Occurs, in_args, OccursIn, in_first, in_later}
use Rattle.uc_term.proofs.Terms.{apply-apply}
use Rattle.uc_term.proofs.Agree.{same_if}
use Rattle.uc_term.proofs.Paths.{apply-put}
use Rattle.uc_term.proofs.Positions.{position, placed}
use Rattle.uc_fact.specs.Live.{Rule}
use Rattle.uc_pair.specs.Overlapping.{shifted, IsBelow, Overlapping, IsApart, left_of, right_of}

-- the variables of a subterm are the term's
mutual
  pub occurs_at : (p : List ℕ) (t u : Tree) (x : ℕ) → at t p ≡ Some u → Occurs x u → Occurs x t
  occurs_at [] t u x e o = let q : u ≡ t = cc in subst (Occurs x) q o
  occurs_at (i ∷ p) (var y) u x e o = absurd cc
  occurs_at (i ∷ p) (app f ts) u x e o = in_args (occurs_in p i ts u x e o)

  occurs_in : (p : List ℕ) (i : ℕ) (ts : Trees) (u : Tree) (x : ℕ) → option_and_then (λ v. at v p) (nth ts i) ≡ Some u → Occurs x u → OccursIn x ts
  occurs_in p i none u x e o = absurd cc
  occurs_in p zero (more t ts) u x e o = in_first (occurs_at p t u x e o)
  occurs_in p (suc i) (more t ts) u x e o = in_later (occurs_in p i ts u x e o)

-- one substitution for two: the first below k, the second from k on
abbrev pub both : ℕ → (ℕ → Tree) → (ℕ → Tree) → ℕ → Tree
both k τ υ x = if nat_lt x k then τ x else υ (x - k)

both_low : (k : ℕ) (τ υ : ℕ → Tree) (x : ℕ) → x < k → both k τ υ x ≡ τ x
both_low k τ υ x h = let e : nat_lt x k ≡ true = grind (arith, nat_tests) in rw e refl

both_high : (k : ℕ) (τ υ : ℕ → Tree) (x : ℕ) → both k τ υ (x + k) ≡ υ x
both_high k τ υ x = let e : nat_lt (x + k) k ≡ false = grind (arith, nat_tests) in let q : x + k - k ≡ x = omega arith in rw e (ap υ q)

on_low : (k : ℕ) (τ υ : ℕ → Tree) (t : Tree) → ((x : ℕ) → Occurs x t → x < k) → apply τ t ≡ apply (both k τ υ) t
on_low k τ υ t h = sym (same_if (both k τ υ) τ t (λ x o. both_low k τ υ x (h x o)))

on_high : (k : ℕ) (τ υ : ℕ → Tree) (t : Tree) → apply υ t ≡ apply (both k τ υ) (shifted k t)
on_high k τ υ t = sym (apply-apply (both k τ υ) (λ x. var (x + k)) t ∙ same_if (λ x. both k τ υ (x + k)) υ t (λ x o. both_high k τ υ x))

-- at a position of the outer side, of which the subterm's instance is one of the inner side
module _ (outer inner : Rule) (p : List ℕ) (part : Tree) (there : at outer.from p ≡ Some part) (τ υ : ℕ → Tree) (same : apply τ part ≡ apply υ inner.from) where
  abbrev pub place : ℕ
  place = position outer.from p

  pub part_is : subterm outer.from place ≡ part
  part_is = (placed outer.from p part there).there outer.from

  unifies : (k : ℕ) → IsBelow k outer → apply (both k τ υ) (subterm outer.from place) ≡ apply (both k τ υ) (shifted k inner.from)
  unifies k low = ap (apply (both k τ υ)) part_is ∙ sym (on_low k τ υ part (λ x o. low x (inl (occurs_at p outer.from part x there o)))) ∙ same ∙ on_high k τ υ inner.from

  -- so the two unify there
  pub not_apart : IsApart outer inner place → ⊥
  not_apart a = a.never (both a.k τ υ) (unifies a.k a.apart)

  -- and what the two rules lead to is an instance of the overlap's pair
  pub record IsPairInstance (o : Overlapping outer inner place) : Type 0 where
    pub ρ : ℕ → Tree
    pub left_is : apply τ outer.to ≡ apply ρ (left_of o)
    pub right_is : put_at (apply τ outer.from) p (apply υ inner.to) ≡ apply ρ (right_of o)

  pub pair_instance : (o : Overlapping outer inner place) → IsPairInstance o
  pair_instance o =
      let ρ = both o.k τ υ in
      let u = unifies o.k o.apart in
      let again : (t : Tree) → apply ρ t ≡ apply ρ (apply o.σ t) = λ t. sym (apply-apply ρ o.σ t ∙ same_if (λ x. apply ρ (o.σ x)) ρ t (λ x _. o.most_general.general ρ u x)) in
      let from_is : apply τ outer.from ≡ apply ρ outer.from = on_low o.k τ υ outer.from (λ x q. o.apart x (inl q)) in
      let put_is : put_at (apply τ outer.from) p (apply υ inner.to) ≡ apply ρ (put_at outer.from p (shifted o.k inner.to)) = ap₂ (λ a b. put_at a p b) from_is (on_high o.k τ υ inner.to) ∙ sym (apply-put ρ p outer.from part (shifted o.k inner.to) there) in
      record {
        ρ = ρ;
        left_is = on_low o.k τ υ outer.to (λ x q. o.apart x (inr q)) ∙ again outer.to;
        right_is = put_is ∙ ap (apply ρ) (sym ((placed outer.from p part there).puts (shifted o.k inner.to))) ∙ again (put outer.from place (shifted o.k inner.to));
      }
