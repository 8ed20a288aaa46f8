-- Tables and lists that grow.
use Rattle.std.proofs.Common.{ℕ, List, [], ◌++◌, sym, ap, ◌∙◌, append-nil, append_assoc}
use Rattle.uc_term.specs.declared.node.Sym.{Sym}
pub use Rattle.uc_term.proofs.Gets.{get-append_left as get_within}
pub use Rattle.uc_term.proofs.Grown.{interned_grows}
use Rattle.uc_term.specs.Table.{Table, Grows, IsSymbol}

pub grows_not : (table : Table) → Grows table table
grows_not table = ([], sym (append-nil table))

pub grows_twice : (a b c : Table) → Grows a b → Grows b c → Grows a c
grows_twice a b c g h = (g.0 ++ h.0, h.1 ∙ ap (λ t. t ++ h.0) g.1 ∙ append_assoc a g.0 h.0)

pub symbol_grows : (old new : Table) (f : Sym) (name : List ℕ) (arity : ℕ) → Grows old new → IsSymbol old f name arity → IsSymbol new f name arity
symbol_grows old new f name arity g s = rw g.1 (get_within old g.0 f.0 (record { name = name; arity = arity }) s)
