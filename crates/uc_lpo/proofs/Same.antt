-- Equal ranks and equal relations of variables make the same order.
use Rattle.std.proofs.Common.{◌≡◌, ◌↔◌, ℕ, [], sym, arith}
use Rattle.uc_term.specs.declared.node.Sym.{Sym}
use Rattle.uc_term.specs.Tree.{Tree, Trees}
use Rattle.uc_term.proofs.Terms.{apply-var}
use Rattle.uc_order.specs.VarOrders.{Classes, IsHigher, representative}
use Rattle.uc_lpo.specs.PathOrder.{PathOrder, by_variables, by_argument, by_head, by_arguments, SomeReaches, is_it, is_greater, a_later, Exceeds, no_more, one_more, FirstGreater, differ, agree, Nothing, Lpo}
use Rattle.uc_lpo.specs.Shown.{shown}
use Rattle.uc_lpo.specs.Meaning.{LpoUnder}
use Rattle.uc_lpo.specs.Higher.{higher_irreflexive}

module _ (rank other : Sym → ℕ) (same : (f : Sym) → rank f ≡ other f) (above below : ℕ → ℕ → Type 0) (all : (x y : ℕ) → above x y → below x y) where
  mutual
    pub PathOrder-map : {s t : Tree} → PathOrder rank above s t → PathOrder other below s t
    PathOrder-map (by_variables {x = x} {y = y} a) = by_variables (all x y a)
    PathOrder-map (by_argument h) = by_argument (SomeReaches-map h)
    PathOrder-map (by_head {f = f} {g = g} r h) = by_head (let e = same f in let k = same g in omega (arith, r, e, k)) (Exceeds-map h)
    PathOrder-map (by_arguments h d) = by_arguments (Exceeds-map h) (FirstGreater-map d)

    SomeReaches-map : {ss : Trees} {t : Tree} → SomeReaches rank above ss t → SomeReaches other below ss t
    SomeReaches-map is_it = is_it
    SomeReaches-map (is_greater h) = is_greater (PathOrder-map h)
    SomeReaches-map (a_later h) = a_later (SomeReaches-map h)

    Exceeds-map : {s : Tree} {ts : Trees} → Exceeds rank above s ts → Exceeds other below s ts
    Exceeds-map no_more = no_more
    Exceeds-map (one_more h hs) = one_more (PathOrder-map h) (Exceeds-map hs)

    FirstGreater-map : {ss ts : Trees} → FirstGreater rank above ss ts → FirstGreater other below ss ts
    FirstGreater-map (differ h) = differ (PathOrder-map h)
    FirstGreater-map (agree d) = agree (FirstGreater-map d)

pub shown_plain : (t : Tree) → shown (representative []) t ≡ t
shown_plain t = apply-var t

module _ (P : Type 0) (rank other : Sym → ℕ) (same : (f : Sym) → rank f ≡ other f) (s t : Tree) where
  -- without classes
  pub plain_verdict : P ↔ PathOrder rank (IsHigher []) (shown (representative []) s) (shown (representative []) t) → P ↔ Lpo other s t
  plain_verdict a =
      let b : P ↔ PathOrder rank (IsHigher []) s t = rw (shown_plain s, shown_plain t) at a in (
        λ p. PathOrder-map rank other same (IsHigher []) Nothing (λ x y h. higher_irreflexive [] x h) (b.0 p),
        λ l. b.1 (PathOrder-map other rank (λ f. sym (same f)) Nothing (IsHigher []) (λ x y h. absurd h) l),
      )

  -- under an order of variables
  pub verdict_under : (cs : Classes) → P ↔ PathOrder rank (IsHigher cs) (shown (representative cs) s) (shown (representative cs) t) → P ↔ LpoUnder other cs s t
  verdict_under cs a = (
    λ p. PathOrder-map rank other same (IsHigher cs) (IsHigher cs) (λ x y h. h) (a.0 p),
    λ l. a.1 (PathOrder-map other rank (λ f. sym (same f)) (IsHigher cs) (IsHigher cs) (λ x y h. h) l),
  )
