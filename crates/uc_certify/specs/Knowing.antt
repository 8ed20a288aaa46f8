-- Sets of symbols by their numbers, and terms of known symbols and variables alone.
use Rattle.std.specs.Prelude.{ℕ, ◌≡◌, ◌↔◌, nat_eq, true, List}
use Rattle.std.specs.List.{list_any}
use Rattle.uc_term.specs.declared.node.Sym.{Sym}
use Rattle.uc_term.specs.declared.node.Node.{Node}
use Rattle.uc_term.specs.declared.node.Node.TheVariants.{Var, App}
use Rattle.uc_term.specs.Tree.{Tree}
use Rattle.uc_term.specs.Variables.{Occurs}
use Rattle.uc_order.specs.Members.{In}

-- the set has the symbol's number
abbrev pub HasNumber : List ℕ → Sym → Type 0
HasNumber numbers f = list_any (nat_eq f.0) numbers ≡ true

-- it has the numbers of the symbols of a list, and no other
abbrev pub IsSetOf : List ℕ → List Sym → Type 0
IsSetOf numbers fs = (f : Sym) → HasNumber numbers f ↔ In fs f

-- each variable of the term is known
abbrev pub HasKnown : (ℕ → Type 0) → Tree → Type 0
HasKnown Known t = (x : ℕ) → Occurs x t → Known x

-- the node's symbol is one of these, or its variable is known
abbrev pub IsKnownNode : List Sym → (ℕ → Type 0) → Node → Type 0
IsKnownNode fs Known (Var x) = Known x
IsKnownNode fs Known (App f n) = In fs f
