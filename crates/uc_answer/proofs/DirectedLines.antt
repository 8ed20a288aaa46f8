-- The lines that tell how an order directs equations.
use Rattle.std.proofs.Common.{ℕ, zero, suc, ◌+◌, ◌≡◌, ◌<◌, ◌≤◌, List, [], ◌∷◌, ◌++◌, length, get_or, drop, sym, ap, ◌∙◌, subst, arith, append_assoc}
use Rattle.std.proofs.lemmas.List.{drop_more, drop_all, append-nil}
use Rattle.std.proofs.lemmas.Grind.{flat_map-append}
use Rattle.uc_term.specs.declared.equation.Equation.{Equation}
use Rattle.uc_term.specs.Table.{Table, IsOf}
use Rattle.uc_order.specs.declared.order.Cmp.{Cmp}
use Rattle.uc_order.specs.Laws.{Meaning}
use Rattle.uc_answer.specs.Lines.{joined}
use Rattle.uc_answer.specs.Axioms.{AreEquationsOf}
use Rattle.uc_answer.specs.Directions.{Compares, directed_line, AreDirected, none_left, one_line}

pub joined_one : (lines : List (List ℕ)) (line : List ℕ) → joined (lines ++ line ∷ []) ≡ joined lines ++ line
joined_one lines line = flat_map-append (λ l. l) lines (line ∷ []) ∙ ap (λ l. joined lines ++ l) (append-nil line)

pub sides_of : (table : Table) (es : List Equation) (i : ℕ) (e : Equation) → i < length es → e ≡ get_or es i e → AreEquationsOf table es → IsOf table e.left × IsOf table e.right
sides_of table [] i e h q of = absurd (omega arith)
sides_of table (x ∷ xs) zero e h q of = subst (λ (k : Equation). IsOf table k.left × IsOf table k.right) (sym q) (of.0, of.1)
sides_of table (x ∷ xs) (suc i) e h q of = sides_of table xs i e (omega arith) q of.2

module _ (table : Table) (m : Meaning) (all : List Equation) where
  -- behind these lines the lines of the equations that are left are the lines of all
  abbrev pub Begun : ℕ → List (List ℕ) → Type 0
  Begun number lines = (rest : List ℕ) → AreDirected table m number (drop number all) rest → AreDirected table m 0 all (joined lines ++ rest)

  pub one_more : (number : ℕ) (lines : List (List ℕ)) (e : Equation) (cmp : Cmp) → number < length all → e ≡ get_or all number e → Compares m e.left e.right cmp → Begun number lines → Begun (number + 1) (lines ++ directed_line table number cmp e ∷ [])
  one_more number lines e cmp h at compares begun rest d =
      let line = directed_line table number cmp e in
      let here : drop number all ≡ e ∷ drop (number + 1) all = drop_more all number e h ∙ ap (λ k. k ∷ drop (number + 1) all) (sym at) in
      let next : AreDirected table m number (drop number all) (line ++ rest) = subst (λ es. AreDirected table m number es (line ++ rest)) (sym here) (one_line cmp compares d) in
      let texts : joined (lines ++ line ∷ []) ++ rest ≡ joined lines ++ (line ++ rest) = ap (λ t. t ++ rest) (joined_one lines line) ∙ append_assoc (joined lines) line rest in
      subst (AreDirected table m 0 all) (sym texts) (begun (line ++ rest) next)

  pub all_told : (number : ℕ) (lines : List (List ℕ)) → length all ≤ number → Begun number lines → AreDirected table m 0 all (joined lines)
  all_told number lines h begun = subst (AreDirected table m 0 all) (append-nil (joined lines)) (begun [] (subst (λ es. AreDirected table m number es []) (sym (drop_all number all h)) none_left))
