-- Constants in the place of variables.
use Rattle.std.specs.Prelude.{◌≡◌, ℕ, suc, ◌==◌, List, [], ◌∷◌, Option, Some, None, slice_get, if◌then◌else◌}
use Rattle.std.specs.Option.{option_map}
use Rattle.uc_term.specs.declared.node.Sym.{Sym}
use Rattle.uc_term.specs.declared.equation.Equation.{Equation}
use Rattle.uc_term.specs.Tree.{Tree, var, app, Trees, none, more}

-- the first place of a symbol in a list
abbrev pub place_in : List Sym → Sym → Option ℕ
place_in [] f = None
place_in (c ∷ cs) f = if c.0 == f.0 then Some 0 else option_map (λ n. suc n) (place_in cs f)

-- no symbol stands twice
abbrev pub AreApart : List Sym → Type 0
AreApart [] = Unit {0}
AreApart (c ∷ cs) = (place_in cs c ≡ None) × AreApart cs

abbrev pub constant_or_variable : ℕ → Option Sym → Tree
constant_or_variable n (Some c) = app c none
constant_or_variable n None = var n

-- each variable replaced by the constant of its number; one without a constant stays
abbrev pub constant_for : List Sym → ℕ → Tree
constant_for cs n = constant_or_variable n (slice_get cs n)

module _ (cs : List Sym) where
  -- none of these symbols occurs in it
  abbrev mutual
    pub LacksThem : Tree → Type 0
    LacksThem (var x) = Unit {0}
    LacksThem (app f ts) = (place_in cs f ≡ None) × AllLackThem ts

    pub AllLackThem : Trees → Type 0
    AllLackThem none = Unit {0}
    AllLackThem (more t ts) = LacksThem t × AllLackThem ts

  -- none of them occurs in any of the equations
  abbrev pub AreForeign : List Equation → Type 0
  AreForeign es = (i : ℕ) (e : Equation) → slice_get es i ≡ Some e → LacksThem e.left × LacksThem e.right
