use Rattle.std.proofs.Common.{◌≡◌, ℕ, ap, ap₂}
use Rattle.std.specs.Bool.{Decides}
use Rattle.std.proofs.lemmas.Slice.Eq.{slice_eq-Decides}
use Rattle.std.proofs.lemmas.Bool.{eqb-true, eq-eqb}
use Rattle.std.proofs.lemmas.Bool.Decides.{Decides-and, Decides-like, Decides-eqb}
use Rattle.uc_term.specs.declared.node.Node.{Node}
use Rattle.uc_term.specs.declared.node.Sym.{Sym}
use Rattle.uc_term.specs.declared.node.Node.TheVariants.{Var, App}
use Rattle.uc_term.specs.contracts.node.NodePartialEq.TheImpl.{eq-value}
use Rattle.uc_term.proofs.term.same_nodes.Goals as goal

same_app : (f g : Sym) (n m : ℕ) → (f.0 ≡ g.0) × (n ≡ m) → App f n ≡ App g m
same_app f g n m h = ap₂ App (let e : f ≡ g = ap (λ (x : ℕ). let s : Sym = record { 0 = x } in s) h.0 in e) h.1

number : Node → ℕ
number (Var x) = x
number (App f n) = f.0

arity : Node → ℕ
arity (Var x) = 0
arity (App f n) = n

of_app : (f g : Sym) (n m : ℕ) → App f n ≡ App g m → (f.0 ≡ g.0) × (n ≡ m)
unfolding number arity
of_app f g n m e = (ap number e, ap arity e)

pub decides : (a b : Node) → Decides (eq-value.it a b) (a ≡ b)
unfolding number
decides (Var x) (Var y) = (λ h. ap Var (eqb-true x y h), λ e. eq-eqb x y (ap number e))
decides (Var x) (App f n) = (λ h. cc, λ e. cc)
decides (App f n) (Var y) = (λ h. cc, λ e. cc)
decides (App f n) (App g m) = Decides-like _ (same_app f g n m) (of_app f g n m) (Decides-and _ _ (Decides-eqb f.0 g.0) (Decides-eqb n m))

pub returns : goal.returns
returns c = slice_eq-Decides decides _ _ _ c.eq.ensures
