-- Terms that are embedded in others.
use Rattle.std.proofs.Common.{ℕ, zero, suc, ◌≡◌, ◌+◌, ◌-◌, ◌<◌, List, [], ◌∷◌, length, get_or, slice_get, Some, true, false, ◌*◌, IsTrue, slice_index_or, replicate, refl, sym, ap, subst, arith}
use Rattle.uc_term.specs.declared.node.Sym.{Sym}
use Rattle.uc_term.specs.declared.node.Node.{Node}
use Rattle.uc_term.specs.declared.node.Node.TheVariants.{Var, App}
use Rattle.uc_term.specs.Tree.{Tree, var, app, Trees, none, more}
use Rattle.uc_term.specs.Variables.{Occurs, is_itself, in_args, OccursIn, in_first, in_later}
use Rattle.uc_term.specs.Flat.{IsWhole}
use Rattle.uc_term.proofs.Terms.{whole_one}
use Rattle.uc_unify.specs.Closure.{at, next, values}
use Rattle.uc_unify.proofs.Fitting.{Fits, fits_place, fits_next, fits_args, term_made, variable_at}
use Rattle.uc_fact.specs.Embedding.{Embedded, is_variable, in_argument, in_arguments, EmbeddedInOne, in_first_of, in_later_of, AreEmbedded, none_are, more_are, AreMarked}

mutual
  -- a variable is embedded in each term in which it occurs
  pub variable_embedded : (x : ℕ) (t : Tree) → Occurs x t → Embedded (var x) t
  variable_embedded x (var y) is_itself = is_variable
  variable_embedded x (app f ts) (in_args o) = in_argument (embedded_in_one x ts o)

  embedded_in_one : (x : ℕ) (ts : Trees) → OccursIn x ts → EmbeddedInOne (var x) ts
  embedded_in_one x none o = elim o [ ]
  embedded_in_one x (more t ts) (in_first o) = in_first_of (variable_embedded x t o)
  embedded_in_one x (more t ts) (in_later o) = in_later_of (embedded_in_one x ts o)

-- the terms from a place on are the first one and those behind it
values_first : (V : ℕ → Tree) (ns : List Node) (p n : ℕ) → 0 < n → values V ns p n ≡ more (V p) (values V ns (next ns p) (n - 1))
values_first V ns p zero h = absurd (omega arith)
values_first V ns p (suc n) h = ap (λ k. more (V p) (values V ns (next ns p) k)) (let e : n ≡ suc n - 1 = omega arith in e)

pub fits_first : (ns : List Node) (p n : ℕ) → IsWhole ns → Fits ns p n → 0 < n → p < length ns
fits_first ns p zero w f h = absurd (omega arith)
fits_first ns p (suc n) w f h = fits_place ns (whole_one ns w) p n f

pub fits_behind : (ns : List Node) (p n : ℕ) → IsWhole ns → Fits ns p n → 0 < n → Fits ns (next ns p) (n - 1)
fits_behind ns p zero w f h = absurd (omega arith)
fits_behind ns p (suc n) w f h = subst (Fits ns (next ns p)) (let e : n ≡ suc n - 1 = omega arith in e) (fits_next ns (whole_one ns w) p n f)

pub fits_arguments : (ns : List Node) (p n : ℕ) (f : Sym) → IsWhole ns → slice_get ns p ≡ Some (App f n) → Fits ns (p + 1) n
fits_arguments ns p n f w h = fits_args ns (whole_one ns w) p n (f, h)

module _ (ss ts : List Node) (p q n : ℕ) where
  -- none are embedded in none
  pub none_embedded : n ≡ 0 → AreEmbedded (values (at ss) ss p n) (values (at ts) ts q n)
  none_embedded e = subst (λ n. AreEmbedded (values (at ss) ss p n) (values (at ts) ts q n)) (sym e) none_are

  pub first_embedded : 0 < n → Embedded (at ss p) (at ts q) → EmbeddedInOne (at ss p) (values (at ts) ts q n)
  first_embedded h e = subst (EmbeddedInOne (at ss p)) (sym (values_first (at ts) ts q n h)) (in_first_of e)

  pub later_embedded : 0 < n → EmbeddedInOne (at ss p) (values (at ts) ts (next ts q) (n - 1)) → EmbeddedInOne (at ss p) (values (at ts) ts q n)
  later_embedded h e = subst (EmbeddedInOne (at ss p)) (sym (values_first (at ts) ts q n h)) (in_later_of e)

  pub all_embedded : 0 < n → Embedded (at ss p) (at ts q) → AreEmbedded (values (at ss) ss (next ss p) (n - 1)) (values (at ts) ts (next ts q) (n - 1)) → AreEmbedded (values (at ss) ss p n) (values (at ts) ts q n)
  all_embedded h e es = subst (λ us. AreEmbedded us (values (at ts) ts q n)) (sym (values_first (at ss) ss p n h)) (subst (AreEmbedded (more (at ss p) (values (at ss) ss (next ss p) (n - 1)))) (sym (values_first (at ts) ts q n h)) (more_are e es))

module _ (ss ts : List Node) (ws : IsWhole ss) (wt : IsWhole ts) (p q n : ℕ) (f : Sym) (here : slice_get ts q ≡ Some (App f n)) where
  -- where a symbol stands at the second place
  pub argument_embedded : EmbeddedInOne (at ss p) (values (at ts) ts (q + 1) n) → Embedded (at ss p) (at ts q)
  argument_embedded e = subst (Embedded (at ss p)) (sym (term_made ts (whole_one ts wt) q f n here)) (in_argument e)

  pub arguments_embedded : slice_get ss p ≡ Some (App f n) → AreEmbedded (values (at ss) ss (p + 1) n) (values (at ts) ts (q + 1) n) → Embedded (at ss p) (at ts q)
  arguments_embedded there es = subst (Embedded (at ss p)) (sym (term_made ts (whole_one ts wt) q f n here)) (subst (λ s. Embedded s (app f (values (at ts) ts (q + 1) n))) (sym (term_made ss (whole_one ss ws) p f n there)) (in_arguments es))

-- where one variable stands at both
pub same_embedded : (ss ts : List Node) (p q x : ℕ) → slice_get ss p ≡ Some (Var x) → slice_get ts q ≡ Some (Var x) → Embedded (at ss p) (at ts q)
same_embedded ss ts p q x h k = subst (λ s. Embedded s (at ts q)) (sym (variable_at ss p x h)) (subst (Embedded (var x)) (sym (variable_at ts q x k)) is_variable)

-- where nothing is marked
not_true : (n i : ℕ) → IsTrue (slice_index_or (replicate n false) i false) → ⊥
not_true zero i h = absurd (let e : false ≡ true = h in cc)
not_true (suc n) zero h = absurd (let e : false ≡ true = h in cc)
not_true (suc n) (suc i) h = not_true n i h

pub unmarked : (ss ts : List Node) → AreMarked ss ts (replicate 1024 false)
unmarked ss ts = record { long = refl; marked = λ p q h k m. absurd (not_true 1024 (p * 32 + q) m) }

-- what stands at a place within a list
pub get_of : (ns : List Node) (i : ℕ) (n d : Node) → i < length ns → get_or ns i d ≡ n → slice_get ns i ≡ Some n
get_of [] i n d h e = absurd (omega arith)
get_of (m ∷ ns) zero n d h e = ap Some e
get_of (m ∷ ns) (suc i) n d h e = get_of ns i n d (omega arith) e
