-- What a reader of a flat list finds at a place: a whole term, and whole terms behind it.
use Rattle.std.proofs.Common.{◌≡◌, ℕ, ◌+◌, ◌-◌, ◌<◌, ◌≤◌, List, [], ◌∷◌, length, take, drop, get_or, refl, sym, ap, ap₂, ◌∙◌, arith, length-drop}
use Rattle.std.proofs.Math.Seq.{take-append_seam, drop-append_seam}
use Rattle.std.proofs.Common.{drop-drop, length-append}
use Rattle.uc_term.specs.declared.node.Sym.{Sym}
use Rattle.uc_term.specs.declared.node.Node.{Node}
use Rattle.uc_term.specs.declared.node.Node.TheVariants.{Var, App}
use Rattle.uc_term.specs.Tree.{Tree, var, app, more, of_list, nodes}
use Rattle.uc_term.specs.Flat.{flat, flat_all, spelled, tree_of, first_of_trees, IsWhole, trees_of, AreWhole}
use Rattle.uc_term.proofs.Terms.{length-flat, nodes_pos, whole-flat, whole-drop, whole_one, trees_of-flat_all}
use Rattle.uc_term.specs.Code.{tree_of-flat}

pub record Split (ns : List Node) (p e : ℕ) : Type 0 where
  pub within : (p < e) × (e ≤ length ns)
  pub whole : IsWhole (take (e - p) (drop p ns))
  pub some : (0 < length (take (e - p) (drop p ns))) × (length (take (e - p) (drop p ns)) ≡ e - p)
  pub trees : trees_of (drop p ns) ≡ more (tree_of (take (e - p) (drop p ns))) (trees_of (drop e ns))

-- the same, of the list from p on
pub at_front : (st : List Tree) (ms : List Node) → spelled ms ≡ st → flat_all (of_list st) ≡ ms → 0 < length ms → (take (nodes (tree_of ms)) ms ≡ flat (tree_of ms)) × (trees_of ms ≡ more (tree_of ms) (trees_of (drop (nodes (tree_of ms)) ms))) × (nodes (tree_of ms) ≤ length ms)
at_front [] ms is e h = absurd (omega (arith, ap length e))
at_front (t ∷ st) ms is e h =
    let first : tree_of ms ≡ t = ap first_of_trees is in
    let rest : drop (nodes t) ms ≡ flat_all (of_list st) = rw (← e, ← length-flat t) (drop-append_seam (flat t) (flat_all (of_list st))) in
    let front : take (nodes t) ms ≡ flat t = rw (← e, ← length-flat t) (take-append_seam (flat t) (flat_all (of_list st))) in
    let size : nodes t ≤ length ms = omega (arith, ap length e, length-append (flat t) (flat_all (of_list st)), length-flat t) in
    (rw first front, rw (first, rest, trees_of-flat_all (of_list st)) (ap of_list is), rw first size)

pub split : (ns : List Node) (p e : ℕ) → AreWhole ns → p < length ns → e ≡ p + nodes (tree_of (drop p ns)) → Split ns p e
split ns p e w h q =
    let ms = drop p ns in
    let size = length-drop p ns in
    let f = at_front (spelled ms) ms refl (whole-drop p ns w) (omega (arith, length-drop p ns)) in
    let t = tree_of ms in
    let span : e - p ≡ nodes t = omega arith in
    let part : take (e - p) ms ≡ flat t = rw span f.0 in
    let at_e : drop e ns ≡ drop (nodes t) ms = ap (λ k. drop k ns) q ∙ sym (drop-drop (nodes t) p ns) in
    let same : tree_of (take (e - p) ms) ≡ t = rw part (tree_of-flat t) in
    let long : length (take (e - p) ms) ≡ nodes t = rw part (length-flat t) in
    record {
      within = (omega (arith, nodes_pos t), omega (arith, f.2, length-drop p ns));
      whole = rw part (whole-flat t);
      some = (omega (arith, nodes_pos t), omega arith);
      trees = rw (same, at_e) f.1;
    }

var_head : (ns : List Node) (x : ℕ) (d : Node) → get_or ns 0 d ≡ Var x → 0 < length ns → tree_of ns ≡ var x
var_head [] x d e h = absurd (omega arith)
var_head (Var y ∷ ns) x d e h = ap var cc
var_head (App g m ∷ ns) x d e h = absurd cc

pub head_var : (ns : List Node) (x : ℕ) (d : Node) → get_or ns 0 d ≡ Var x → 0 < length ns → tree_of ns ≡ var x
head_var = var_head

pub head_app : (ns : List Node) (f : Sym) (n : ℕ) (d : Node) → get_or ns 0 d ≡ App f n → 0 < length ns → IsWhole ns → tree_of ns ≡ app f (trees_of (drop 1 ns))
head_app [] f n d e h w = absurd (omega arith)
head_app (Var y ∷ ns) f n d e h w = absurd cc
head_app (App g m ∷ ns) f n d e h w =
    let args = of_list (take m (spelled ns)) in
    let tail : flat_all args ≡ ns = cc in
    let same : trees_of ns ≡ args = ap trees_of (sym tail) ∙ trees_of-flat_all args in
    let head : g ≡ f = cc in
    ap₂ app head (sym same)

pub tail_whole : (ns : List Node) → IsWhole ns → AreWhole (drop 1 ns)
tail_whole ns w = whole-drop 1 ns (whole_one ns w)
