-- How a system is printed, line by line.
use Rattle.std.specs.Prelude.{◌≡◌, ℕ, ◌+◌, ◌==◌, Bool, false, List, [], ◌∷◌, ◌++◌, length, codes, decimal}
use Rattle.std.specs.List.{flat_map, list_any}
use Rattle.uc_term.specs.declared.node.Sym.{Sym}
use Rattle.uc_term.specs.declared.equation.Equation.{Equation}
use Rattle.uc_term.specs.Table.{Table, Has, IsOf, name_of, arity_of}
use Rattle.uc_order.specs.Members.{Each}
use Rattle.uc_order.specs.declared.spec.OrderSpec.{OrderSpec}
use Rattle.uc_order.specs.declared.spec.OrderSpec.TheVariants.{Kbo, Lpo}
use Rattle.uc_system.specs.Header.{heading_line, weighing_words, paths_line}
use Rattle.uc_system.specs.Symbols.{symbol_front}
use Rattle.uc_system.specs.Facts.{end_line, fact_line}

-- the line, with its line feed
abbrev pub ended : List ℕ → List ℕ
ended line = line ++ codes "\n"

-- some symbol weighs 0
abbrev pub is_light : OrderSpec → Bool
is_light (Kbo w0 weights precedence) = list_any (λ w. w == 0) weights
is_light (Lpo precedence) = false

abbrev pub order_line : OrderSpec → List ℕ
order_line (Kbo w0 weights precedence) = weighing_words ++ decimal w0
order_line (Lpo precedence) = paths_line

module _ (table : Table) where
  -- a symbol's line without the weight
  abbrev pub bare_line : Sym → List ℕ
  bare_line f = symbol_front (name_of table f) ++ decimal (arity_of table f)

  abbrev pub weighed_line : Sym → ℕ → List ℕ
  weighed_line f w = bare_line f ++ codes " " ++ decimal w

  abbrev pub weighed_text : List Sym → List ℕ → List ℕ
  weighed_text (f ∷ fs) (w ∷ ws) = ended (weighed_line f w) ++ weighed_text fs ws
  weighed_text fs ws = []

  abbrev pub bare_text : List Sym → List ℕ
  bare_text fs = flat_map (λ f. ended (bare_line f)) fs

  abbrev pub symbols_text : OrderSpec → List ℕ
  symbols_text (Kbo w0 weights precedence) = weighed_text precedence weights
  symbols_text (Lpo precedence) = bare_text precedence

  -- the facts, the first of which has this number
  abbrev pub facts_text : ℕ → List Equation → List ℕ
  facts_text k [] = []
  facts_text k (e ∷ es) = ended (fact_line table k e) ++ facts_text (k + 1) es

  abbrev pub system_text : OrderSpec → List Equation → List ℕ
  system_text spec es = ended (heading_line (is_light spec)) ++ ended (order_line spec) ++ symbols_text spec ++ facts_text 1 es ++ ended end_line

  -- the symbols of a description are the table's, and each has a weight where there are weights
  abbrev pub IsSpecOf : OrderSpec → Type 0
  IsSpecOf (Kbo w0 weights precedence) = Each (Has table) precedence × (length weights ≡ length precedence)
  IsSpecOf (Lpo precedence) = Each (Has table) precedence

  -- the terms of an equation are of the table
  abbrev pub IsEquationOf : Equation → Type 0
  IsEquationOf e = IsOf table e.left × IsOf table e.right
