-- What two terms come to, by the sizes of their classes.
use Rattle.std.proofs.Common.{◌≡◌, ℕ, ◌<◌, ◌≤◌, min, List, ◌++◌, length, drop, get_or, slice_get, Some, refl, sym, ap, ◌∙◌, arith, ◌⊎◌, inl, inr, append-nil, length-append}
use Rattle.std.proofs.Math.Seq.{drop-append_seam}
use Rattle.std.proofs.lemmas.Option.{slice_get_within}
use Rattle.uc_term.specs.declared.node.Node.{Node}
use Rattle.uc_term.specs.declared.node.Node.TheVariants.{Var}
use Rattle.uc_term.specs.Tree.{Tree, var, more, none, nodes}
use Rattle.uc_term.specs.Subst.{image}
use Rattle.uc_term.specs.Flat.{flat, flat_all, tree_of, trees_of, first_of_trees, IsWhole, AreWhole}
use Rattle.uc_term.specs.Code.{spelled-flat}
use Rattle.uc_term.proofs.Terms.{nodes_whole, nodes_pos, trees_of-flat_all}
use Rattle.uc_unify.specs.Unifiers.{HasNoUnifier, IsTooLarge, IsUnifier}
use Rattle.uc_unify.specs.Closure.{at, next, class, IsClosed}
use Rattle.uc_unify.specs.Solutions.{Solves, HasSize, AreSized, AreStuck, IsWritable, IsSolution}
use Rattle.uc_unify.proofs.Sizing.{solves_class}
use Rattle.uc_unify.proofs.General.{stands_or_not, V, V_solves, V_is, V_instance, most_general, all_bound, no_unifier, solved_of}

-- a sum type of where a variable stands
abbrev Stands : List Node → ℕ → Type 0
Stands ns x = ((p : ℕ) × (slice_get ns p ≡ Some (Var x))) ⊎ ((p : ℕ) → slice_get ns p ≡ Some (Var x) → ⊥)

module _ (ns : List Node) (w : AreWhole ns) (second : ℕ) (classes : List ℕ) (closed : IsClosed ns second classes) (sizes : List ℕ) (sized : AreSized ns classes sizes) where
  pub apart : AreStuck ns classes sizes → (p : ℕ) → p < length classes → get_or sizes (class classes p) 0 ≡ 0 → HasNoUnifier (at ns 0) (at ns second)
  apart stuck p h z τ u = no_unifier ns w second classes closed sizes stuck τ u p (let l = closed.are_classes.long in omega arith) z

  module _ (first : next ns 0 ≡ second) (last : next ns second ≡ length ns) (inside : second < length ns) (all : (p : ℕ) → p < length classes → get_or sizes (class classes p) 0 ≡ 0 → ⊥) where
    abbrev solved : (p : ℕ) → p < length ns → (t : Tree) × Solves ns classes p t
    solved = solved_of ns w second classes closed sizes sized (λ p h. all p (let l = closed.are_classes.long in omega arith))

    some : 0 < length ns
    some = omega arith

    size_of : get_or sizes (class classes 0) 0 ≡ min (nodes (V ns w second classes closed solved 0)) 4097
    size_of = go (sized.sized (class classes 0) (closed.are_classes.within 0 some))
      where
        go : (get_or sizes (class classes 0) 0 ≡ 0) ⊎ HasSize ns classes (class classes 0) (get_or sizes (class classes 0) 0) → get_or sizes (class classes 0) 0 ≡ min (nodes (V ns w second classes closed solved 0)) 4097
        go (inl z) = absurd (all 0 (let l = closed.are_classes.long in omega arith) z)
        go (inr s) = s.size_is ∙ ap (λ t. min (nodes t) 4097) (sym (V_is ns w second classes closed solved 0 s.term some (solves_class ns classes (class classes 0) 0 s.term (sym (closed.are_classes.stands 0 some)) s.solves)))

    picked : (x : ℕ) → Stands ns x → Tree
    picked x (inl h) = V ns w second classes closed solved h.0
    picked x (inr h) = var x

    σ : ℕ → Tree
    σ x = picked x (stands_or_not ns x)

    here_is : (p x : ℕ) → slice_get ns p ≡ Some (Var x) → σ x ≡ V ns w second classes closed solved p
    unfolding σ picked
    here_is p x e = go (stands_or_not ns x)
      where
        go : (s : Stands ns x) → picked x s ≡ V ns w second classes closed solved p
        go (inl h) = V_is ns w second classes closed solved h.0 (V ns w second classes closed solved p) (slice_get_within ns h.0 (Var x) h.1) (solves_class ns classes p h.0 (V ns w second classes closed solved p) (closed.are_classes.one h.0 p x h.1 e) (V_solves ns w second classes closed solved p (slice_get_within ns p (Var x) e)))
        go (inr h) = absurd (h p e)

    other_is : (x : ℕ) → ((p : ℕ) → slice_get ns p ≡ Some (Var x) → ⊥) → σ x ≡ var x
    unfolding σ picked
    other_is x n = go (stands_or_not ns x)
      where
        go : (s : Stands ns x) → picked x s ≡ var x
        go (inl h) = absurd (n h.0 h.1)
        go (inr h) = refl

    pub too_large : 4096 < get_or sizes (class classes 0) 0 → IsTooLarge (at ns 0) (at ns second)
    too_large h = record {
      σ = σ;
      most_general = most_general ns w second classes closed solved σ here_is other_is some inside;
      large = let e = ap nodes (V_instance ns w second classes closed solved σ here_is 0 some) in let s = size_of in omega arith;
    }

    module _ (small : get_or sizes (class classes 0) 0 ≤ 4096) where
      root_small : nodes (V ns w second classes closed solved 0) ≤ 4096
      root_small = let s = size_of in omega arith

      pub writable : (p : ℕ) → p < length ns → IsWritable ns classes p
      writable p h = record {
        term = V ns w second classes closed solved p;
        solves = V_solves ns w second classes closed solved p h;
        small = let b = all_bound ns w second classes closed solved first last inside p h in let r = root_small in omega arith;
      }

      pub unifier : (pairs : List (ℕ × Tree)) → IsSolution ns classes (image pairs) → IsUnifier (at ns 0) (at ns second) pairs
      unifier pairs s = record {
        most_general = most_general ns w second classes closed solved (image pairs) here s.others some inside;
        small = let e = ap nodes (V_instance ns w second classes closed solved (image pairs) here 0 some) in let r = root_small in omega arith;
      }
        where
          here : (p x : ℕ) → slice_get ns p ≡ Some (Var x) → image pairs x ≡ V ns w second classes closed solved p
          here p x e = s.here p x (V ns w second classes closed solved p) e (V_solves ns w second classes closed solved p (slice_get_within ns p (Var x) e))

-- the two terms in one list
module _ (s t both : List Node) (ws : IsWhole s) (wt : IsWhole t) (is : both ≡ s ++ t) where
  parts : both ≡ flat (tree_of s) ++ flat (tree_of t)
  parts = is ∙ ap (λ l. l ++ t) (sym ws) ∙ ap (λ l. flat (tree_of s) ++ l) (sym wt)

  pub are_whole : AreWhole both
  are_whole =
      let e : both ≡ flat_all (more (tree_of s) (more (tree_of t) none)) = parts ∙ ap (λ l. flat (tree_of s) ++ l) (sym (append-nil (flat (tree_of t)))) in
      ap flat_all (ap trees_of e ∙ trees_of-flat_all (more (tree_of s) (more (tree_of t) none))) ∙ sym e

  pub at_first : at both 0 ≡ tree_of s
  at_first = ap tree_of parts ∙ ap first_of_trees (spelled-flat (tree_of s) (flat (tree_of t)))

  pub at_second : at both (length s) ≡ tree_of t
  at_second = ap tree_of (ap (drop (length s)) is ∙ drop-append_seam s t)

  pub next_first : next both 0 ≡ length s
  next_first = omega (arith, ap nodes at_first, nodes_whole s ws)

  pub next_second : next both (length s) ≡ length both
  next_second = omega (arith, ap nodes at_second, nodes_whole t wt, ap length is, length-append s t)

  pub second_within : length s < length both
  second_within = omega (arith, nodes_whole t wt, nodes_pos (tree_of t), ap length is, length-append s t)
