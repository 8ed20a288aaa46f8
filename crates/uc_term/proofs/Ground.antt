-- Whether a variable occurs in a flat list.
use Rattle.std.proofs.Common.{◌≡◌, ℕ, ◌<◌, ◌≤◌, Bool, true, false, ◌||◌, List, [], ◌∷◌, ◌++◌, length, drop, get_or, refl, ap, ◌∙◌, arith, zero, suc, ◌+◌}
use Rattle.std.proofs.lemmas.List.{drop_more}
use Rattle.uc_term.specs.declared.node.Sym.{Sym}
use Rattle.uc_term.specs.declared.node.Node.{Node}
use Rattle.uc_term.specs.declared.node.Node.TheVariants.{Var, App}
use Rattle.uc_term.specs.Tree.{Tree, var, app, Trees, none, more}
use Rattle.uc_term.specs.Flat.{flat, flat_all}
use Rattle.uc_term.specs.Variables.{has_variable, any_has_variable}

abbrev pub has_var : List Node → Bool
has_var [] = false
has_var (Var x ∷ ns) = true
has_var (App f n ∷ ns) = has_var ns

has_var-append : (ns ms : List Node) → has_var (ns ++ ms) ≡ (has_var ns || has_var ms)
has_var-append [] ms = refl
has_var-append (Var x ∷ ns) ms = refl
has_var-append (App f n ∷ ns) ms = has_var-append ns ms

mutual
  pub has_var-flat : (t : Tree) → has_var (flat t) ≡ has_variable t
  has_var-flat (var x) = refl
  has_var-flat (app f ts) = has_var-flat_all ts

  has_var-flat_all : (ts : Trees) → has_var (flat_all ts) ≡ any_has_variable ts
  has_var-flat_all none = refl
  has_var-flat_all (more t ts) = has_var-append (flat t) (flat_all ts) ∙ rw (has_var-flat t, has_var-flat_all ts) refl

pub has_var_here : (ns : List Node) (i x : ℕ) (d : Node) → i < length ns → get_or ns i d ≡ Var x → has_var (drop i ns) ≡ true
has_var_here ns i x d h e = ap has_var (drop_more ns i d h ∙ ap (λ n. n ∷ drop (i + 1) ns) e)

pub no_var_here : (ns : List Node) (i k : ℕ) (f : Sym) (d : Node) → i < length ns → get_or ns i d ≡ App f k → has_var (drop i ns) ≡ has_var (drop (i + 1) ns)
no_var_here ns i k f d h e = ap has_var (drop_more ns i d h ∙ ap (λ n. n ∷ drop (i + 1) ns) e)

pub none_left : (ns : List Node) (i : ℕ) → length ns ≤ i → has_var (drop i ns) ≡ false
none_left [] zero h = refl
none_left [] (suc i) h = refl
none_left (n ∷ ns) zero h = absurd (omega arith)
none_left (n ∷ ns) (suc i) h = none_left ns i (omega arith)
