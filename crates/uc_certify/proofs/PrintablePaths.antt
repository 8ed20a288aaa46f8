-- A position in a term that can be printed can be printed.
use Rattle.std.proofs.Common.{◌≡◌, ℕ, zero, suc, ◌<◌, ◌≤◌, List, [], ◌∷◌, Option, Some, None, option_and_then, refl, subst, arith}
use Rattle.uc_term.specs.Over.{AreOver}
use Rattle.uc_term.specs.Path.{nth, written_argument, at_position}
use Rattle.uc_term.specs.Table.{Table, arity_of}
use Rattle.uc_term.specs.Tree.{Tree, var, app, Trees, none, more, count}
use Rattle.uc_clause.specs.Printable.{IsPrintable, IsPrintableSymbol}
use Rattle.uc_tstp.specs.Printable.{IsPath}

module _ (table : Table) where
  nth_within : (ts : Trees) (i : ℕ) (t : Tree) → nth ts i ≡ Some t → AreOver (IsPrintableSymbol table) (arity_of table) (λ _. Unit {0}) ts → (i < count ts) × IsPrintable table t
  nth_within none i t e h = absurd cc
  nth_within (more u ts) zero t e h = (omega arith, subst (IsPrintable table) (let q : u ≡ t = cc in q) h.0)
  nth_within (more u ts) (suc i) t e h = let r = nth_within ts i t e h.1 in (let l = r.0 in omega arith, r.1)

  argument_within : (t : Tree) (i : ℕ) (u : Tree) → written_argument t i ≡ Some u → IsPrintable table t → (1 ≤ i) × (i ≤ 255) × IsPrintable table u
  argument_within t zero u e h = absurd cc
  argument_within (var x) (suc i) u e h = absurd cc
  argument_within (app f ts) (suc i) u e h = let r = nth_within ts i u e h.2 in (omega arith, omega (arith, r.0, h.1, h.0.2), r.1)

  rest_of : (o : Option Tree) (path : List ℕ) (u : Tree) → option_and_then (λ v. at_position v path) o ≡ Some u → (a : Tree) × (o ≡ Some a) × (at_position a path ≡ Some u)
  rest_of None path u e = cc
  rest_of (Some a) path u e = (a, refl, e)

  pub path_printable : (path : List ℕ) (t u : Tree) → at_position t path ≡ Some u → IsPrintable table t → IsPath path
  path_printable [] t u e h = tt
  path_printable (i ∷ path) t u e h =
      let s = rest_of (written_argument t i) path u e in
      let r = argument_within t i s.0 s.1 h in
      ((r.0, r.1), path_printable path s.0 u s.2 r.2)
