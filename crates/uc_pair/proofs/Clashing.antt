-- Where two first symbols are different.
use Rattle.std.proofs.Common.{◌≡◌, ℕ, zero, suc, ◌+◌, ◌-◌, ◌<◌, List, take, drop, get_or, length, refl, ap, ◌∙◌, arith}
use Rattle.uc_term.specs.declared.node.Sym.{Sym}
use Rattle.uc_term.specs.declared.node.Node.{Node}
use Rattle.uc_term.specs.declared.node.Node.TheVariants.{Var, App}
use Rattle.uc_term.specs.Tree.{nodes}
use Rattle.uc_term.specs.Flat.{tree_of, IsWhole}
use Rattle.uc_term.proofs.Terms.{whole_one}
use Rattle.uc_term.proofs.Ahead.{drop-at}
use Rattle.uc_term.proofs.Parts.{split}
use Rattle.uc_pair.specs.Fitting.{HasNoFit}
use Rattle.uc_pair.proofs.Parts.{part_whole, no_fit}
use Rattle.uc_pair.proofs.Walking.{at_start, at_clash}

-- the first node of a part
pub first_of : (ns : List Node) (p k : ℕ) (d : Node) → p < length ns → 0 < k → get_or (take k (drop p ns)) 0 d ≡ get_or ns p d
first_of ns p zero d h k = absurd (omega (arith, k))
first_of ns p (suc k) d h _ = ap (λ (xs : List Node). get_or (take (suc k) xs) 0 d) (drop-at ns p d h)

not_empty : (ns : List Node) (p k : ℕ) (d : Node) → p < length ns → 0 < k → 0 < length (take k (drop p ns))
not_empty ns p zero d h k = absurd (omega (arith, k))
not_empty ns p (suc k) d h _ = rw (drop-at ns p d h) (omega arith)

pub clash_at : (ns ms : List Node) (p : ℕ) (d : Node) (f : Sym) (n : ℕ) → IsWhole ns → IsWhole ms → p < length ns → get_or ns p d ≡ App f n → ((x : ℕ) → get_or ms 0 d ≡ Var x → ⊥) → (get_or ms 0 d ≡ App f n → ⊥) → HasNoFit (tree_of ns) (tree_of ms) p
clash_at ns ms p d f n w v h e no_var no_head =
    let to : ℕ = p + nodes (tree_of (drop p ns)) in
    let ss : List Node = take (to - p) (drop p ns) in
    let some : 0 < to - p = omega (arith, (split ns p to (whole_one ns w) h refl).within.0) in
    let ws : IsWhole ss = part_whole ns p to w h refl in
    no_fit ns ms p to w h refl (at_clash ss ms ws v 0 0 (not_empty ns p (to - p) d h some) (at_start ss ms ws v) d f n (first_of ns p (to - p) d h some ∙ e) no_var no_head)
