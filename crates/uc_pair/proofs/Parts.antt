-- Parts of flat lists, and what stands there.
use Rattle.std.proofs.Common.{◌≡◌, ℕ, ◌+◌, ◌-◌, ◌<◌, ◌≤◌, List, ◌∷◌, take, drop, get_or, length, refl, sym, ap, ◌∙◌, subst, arith, inr}
use Rattle.uc_term.specs.declared.node.Sym.{Sym}
use Rattle.uc_term.specs.declared.node.Node.{Node}
use Rattle.uc_term.specs.declared.node.Node.TheVariants.{Var, App}
use Rattle.uc_term.specs.Tree.{Tree, var, nodes, subterm}
use Rattle.uc_term.specs.Flat.{flat, tree_of, IsWhole}
use Rattle.uc_term.specs.Code.{tree_of-flat}
use Rattle.uc_term.specs.Variables.{IsApp}
use Rattle.uc_term.proofs.Terms.{whole-flat, nodes_whole, whole_one}
use Rattle.uc_term.proofs.Ahead.{drop-at, at_place, subterm_of-drop}
use Rattle.uc_unify.specs.Unifiers.{IsUnified, IsUnifiedIn}
use Rattle.uc_unify.specs.declared.unification.Unified.{Unified}
use Rattle.uc_unify.specs.declared.unification.UnifiedIn.{UnifiedIn}
use Rattle.uc_term.proofs.Parts.{split}
use Rattle.uc_pair.specs.declared.fitting.Part.{Part}
use Rattle.uc_pair.specs.Fitting.{NeverMeet, HasNoFit, IsPart, IsFitAt}

pub part_list : (ns : List Node) (p to : ℕ) → IsWhole ns → p < length ns → to ≡ p + nodes (tree_of (drop p ns)) → take (to - p) (drop p ns) ≡ flat (subterm (tree_of ns) p)
part_list ns p to w h e = (at_place ns ns (tree_of ns) p to refl w refl h e).1

pub part_whole : (ns : List Node) (p to : ℕ) → IsWhole ns → p < length ns → to ≡ p + nodes (tree_of (drop p ns)) → IsWhole (take (to - p) (drop p ns))
part_whole ns p to w h e = subst IsWhole (sym (part_list ns p to w h e)) (whole-flat (subterm (tree_of ns) p))

pub part_tree : (ns : List Node) (p to : ℕ) → IsWhole ns → p < length ns → to ≡ p + nodes (tree_of (drop p ns)) → tree_of (take (to - p) (drop p ns)) ≡ subterm (tree_of ns) p
part_tree ns p to w h e = ap tree_of (part_list ns p to w h e) ∙ tree_of-flat (subterm (tree_of ns) p)

pub variable_at : (ns : List Node) (p x : ℕ) (d : Node) → IsWhole ns → p < length ns → get_or ns p d ≡ Var x → subterm (tree_of ns) p ≡ var x
variable_at ns p x d w h e = sym (subterm_of-drop ns p w h) ∙ ap tree_of (drop-at ns p d h ∙ ap (λ y. y ∷ drop (p + 1) ns) e)

pub symbol_at : (ns : List Node) (p : ℕ) (f : Sym) (n : ℕ) (d : Node) → IsWhole ns → p < length ns → get_or ns p d ≡ App f n → IsApp (subterm (tree_of ns) p)
symbol_at ns p f n d w h e = subst IsApp (sym (ap tree_of (drop-at ns p d h ∙ ap (λ y. y ∷ drop (p + 1) ns) e)) ∙ subterm_of-drop ns p w h) tt

pub no_symbol_at : (ns : List Node) (p x : ℕ) (d : Node) → IsWhole ns → p < length ns → get_or ns p d ≡ Var x → IsApp (subterm (tree_of ns) p) → ⊥
no_symbol_at ns p x d w h e a = subst IsApp (variable_at ns p x d w h e) a

pub no_fit : (ns ms : List Node) (p to : ℕ) → IsWhole ns → p < length ns → to ≡ p + nodes (tree_of (drop p ns)) → NeverMeet (tree_of (take (to - p) (drop p ns))) (tree_of ms) → HasNoFit (tree_of ns) (tree_of ms) p
no_fit ns ms p to w h e n = inr (subst (λ t. NeverMeet t (tree_of ms)) (part_tree ns p to w h e) n)

pub unified_is : (s t s' t' : Tree) (u v : Unified) → s ≡ s' → t ≡ t' → u ≡ v → IsUnified s t u → IsUnified s' t' v
unified_is s t s' t' u v a b e h = subst (IsUnified s' t') e (subst (λ y. IsUnified s' y u) b (subst (λ x. IsUnified x t u) a h))

-- the same where the unifier is lent
pub lent_is : (s t s' t' : Tree) (pairs : List (ℕ × Tree)) (u v : UnifiedIn) → s ≡ s' → t ≡ t' → u ≡ v → IsUnifiedIn s t pairs u → IsUnifiedIn s' t' pairs v
lent_is s t s' t' pairs u v a b e h = subst (IsUnifiedIn s' t' pairs) e (subst (λ y. IsUnifiedIn s' y pairs u) b (subst (λ x. IsUnifiedIn x t pairs u) a h))

-- the part at a place of a term
pub part_of : (ns : List Node) (t : Tree) (p to : ℕ) → IsWhole ns → tree_of ns ≡ t → p < length ns → to ≡ p + nodes (tree_of (drop p ns)) → tree_of (take (to - p) (drop p ns)) ≡ subterm t p
part_of ns t p to w is h e = part_tree ns p to w h e ∙ ap (λ u. subterm u p) is

pub within_list : (ns : List Node) (t : Tree) (p : ℕ) → IsWhole ns → tree_of ns ≡ t → p < nodes t → p < length ns
within_list ns t p w is h = omega (arith, nodes_whole ns w, ap nodes is)

-- where a part of a term ends in its list
module _ (ns : List Node) (t : Tree) (part : Part) (w : IsWhole ns) (is : tree_of ns ≡ t) (h : IsPart t part) where
  pub part_within : part.place < length ns
  part_within = within_list ns t part.place w is h.inside

  pub part_end : part.end ≡ part.place + nodes (tree_of (drop part.place ns))
  part_end = h.end_is ∙ ap (λ u. part.place + nodes (subterm u part.place)) (sym is) ∙ ap (λ u. part.place + nodes u) (sym (subterm_of-drop ns part.place w part_within))

  pub part_in_list : part.end ≤ length ns
  part_in_list = (split ns part.place part.end (whole_one ns w) part_within part_end).within.1

  pub part_is_whole : IsWhole (take (part.end - part.place) (drop part.place ns))
  part_is_whole = part_whole ns part.place part.end w part_within part_end

  pub part_is : tree_of (take (part.end - part.place) (drop part.place ns)) ≡ subterm t part.place
  part_is = part_of ns t part.place part.end w is part_within part_end

pub fit_here : (ns : List Node) (place to : ℕ) (part : Part) (d : Node) (f : Sym) (n : ℕ) → IsWhole ns → place < length ns → get_or ns place d ≡ App f n → to ≡ place + nodes (tree_of (drop place ns)) → to ≤ 4096 → part ≡ record { place = place; end = to } → IsFitAt (tree_of ns) place part
fit_here ns place to part d f n w h e end low is = subst (IsFitAt (tree_of ns) place) (sym is) (
  refl,
  record {
    is_part = record { inside = omega (arith, h, nodes_whole ns w); end_is = end ∙ ap (λ u. place + nodes u) (subterm_of-drop ns place w h); short = low };
    symbol = symbol_at ns place f n d w h e;
  },
)
