-- A list of nodes is one whole term where the count of terms that are still to come falls to 0 at its end and not before.
use Rattle.std.proofs.Common.{◌≡◌, ℕ, zero, suc, get_or, subst, sym, ◌+◌, ◌-◌, ◌<◌, ◌≤◌, List, [], ◌∷◌, length, take, drop, refl, ap, ap₂, ◌∙◌, arith, append-nil}
use Rattle.std.proofs.lemmas.List.{length-take-le, length-drop, drop_all}
use Rattle.uc_term.specs.declared.node.Node.{Node}
use Rattle.uc_term.specs.declared.node.Node.TheVariants.{Var, App}
use Rattle.uc_term.specs.Tree.{Tree, of_list, count}
use Rattle.uc_term.specs.Flat.{flat, flat_all, spelled, first_of_trees, IsWhole, AreWhole}
use Rattle.uc_term.proofs.Terms.{count-of_list, flat_all-take-drop}
use Rattle.bench_orders.specs.Nodes.{arguments}

-- so many terms come, and then nothing
abbrev pub Closes : ℕ → List Node → Type 0
Closes zero [] = Unit {0}
Closes zero (m ∷ ms) = ⊥
Closes (suc k) [] = ⊥
Closes (suc k) (m ∷ ms) = Closes (k + arguments m) ms

record Spells (k : ℕ) (ns : List Node) : Type 0 where
  as_many : length (spelled ns) ≡ k
  whole : AreWhole ns

spells : (k : ℕ) (ns : List Node) → Closes k ns → Spells k ns
spells zero [] c = record { as_many = refl; whole = refl }
spells zero (m ∷ ms) c = absurd c
spells (suc k) [] c = absurd c
spells (suc k) (Var x ∷ ms) c =
    let r = spells (k + 0) ms c in
    record { as_many = omega (arith, r.as_many); whole = ap (λ l. Var x ∷ l) r.whole }
spells (suc k) (App f n ∷ ms) c =
    let r = spells (k + n) ms c in
    let ts : List Tree = spelled ms in
    let first : count (of_list (take n ts)) ≡ n = omega (arith, count-of_list (take n ts), length-take-le n ts (omega (arith, r.as_many)), r.as_many) in
    record {
      as_many = omega (arith, length-drop n ts, r.as_many);
      whole = ap₂ (λ i l. App f i ∷ l) first (flat_all-take-drop n ts ∙ r.whole);
    }

one : (ts : List Tree) (ns : List Node) → length ts ≡ 1 → flat_all (of_list ts) ≡ ns → flat (first_of_trees ts) ≡ ns
one [] ns h e = absurd (omega (arith, h))
one (t ∷ []) ns h e = sym (append-nil (flat t)) ∙ e
one (t ∷ u ∷ us) ns h e = absurd (omega (arith, h))

pub closes_whole : (ns : List Node) → Closes 1 ns → IsWhole ns
closes_whole ns c = let r = spells 1 ns c in one (spelled ns) ns r.as_many r.whole

-- one node further
pub closes_more : (ns : List Node) (at p q : ℕ) (d : Node) (A : Type 0) → at < length ns → 0 < p → q ≡ p - 1 + arguments (get_or ns at d) → (Closes p (drop at ns) → A) → Closes q (drop (at + 1) ns) → A
closes_more [] at p q d A h l e f c = absurd (omega (arith, h))
closes_more (m ∷ ms) at zero q d A h l e f c = absurd (omega (arith, l))
closes_more (m ∷ ms) zero (suc k) q d A h l e f c =
    let same : q ≡ k + arguments m = omega (arith, e) in
    f (subst (λ (n : ℕ). Closes n ms) same c)
closes_more (m ∷ ms) (suc i) (suc k) q d A h l e f c =
    let one : suc i + 1 ≡ suc (i + 1) = omega arith in
    closes_more ms i (suc k) q d A (omega (arith, h)) l e f (subst (λ (n : ℕ). Closes q (drop n (m ∷ ms))) one c)

-- behind the last node
pub closes_end : (ns : List Node) (at p : ℕ) → length ns ≤ at → p ≡ 0 → (Closes p (drop at ns) → Closes 1 ns) → IsWhole ns
closes_end ns at p h e f = closes_whole ns (f (subst (λ (n : ℕ). Closes n (drop at ns)) (sym e) (subst (λ (l : List Node). Closes 0 l) (sym (drop_all at ns h)) tt)))
