-- A printed term is gone over to its end.
use Rattle.std.proofs.Common.{◌≡◌, ◌≢◌, ℕ, ◌+◌, ◌≤◌, ◌<◌, Bool, true, false, List, ◌∷◌, ◌++◌, length, append_assoc, append-nil, if◌then◌else◌, refl, sym, ap, ap₂, ◌∙◌, subst, arith, Some, None}
use Rattle.std.specs.Prelude.{nat_le, nat_lt, Option}
use Rattle.std.proofs.lemmas.Bool.{and_from}
use Rattle.std.proofs.lemmas.Bool.Decides.{nat_tests}
use Rattle.uc_term.specs.declared.node.Sym.{Sym}
use Rattle.uc_term.specs.Tree.{Tree, var, app, Trees, none, more, count, nodes, nodes_all}
use Rattle.uc_term.specs.Over.{IsTerm, AreOver}
use Rattle.uc_term.specs.Table.{Table, name_of, arity_of}
use Rattle.uc_term.specs.Variables.{variables, variables_all}
use Rattle.uc_clause.specs.declared.token.Token.{Token}
use Rattle.uc_clause.specs.declared.terminal.Terminal.{Terminal}
use Rattle.uc_clause.specs.declared.terminal.Terminal.TheVariants as terminal
use Rattle.uc_clause.specs.declared.grammar.head.Head.{Head}
use Rattle.uc_clause.specs.declared.grammar.head.Head.TheVariants.{Variable, Functor}
use Rattle.uc_clause.specs.Names.{spelling, kind_of_word}
use Rattle.uc_clause.specs.Terminals.{terminal_at, bytes_at, word_at}
use Rattle.uc_clause.specs.Terms.{head_at, head_of}
use Rattle.uc_clause.specs.Printing.{variable_text, term_text, rest_text}
use Rattle.uc_clause.specs.Printable.{IsPrintableSymbol, IsNumbered}
use Rattle.uc_clause.proofs.Joined.{Piece, stands_for_spelling}
use Rattle.uc_clause.proofs.Printed.{IsReadable, Here, Facts, term_pieces, args_pieces, rest_pieces, width, rest_width, moved}
use Rattle.uc_clause.proofs.ReadBack.{word_facts, mark_facts, variable_facts, functor_head, passed, ArePrintable}
use Rattle.uc_order.specs.Members.{In}
use Rattle.uc_system.specs.declared.pass.Pending.{Pending}
use Rattle.uc_system.specs.Passing.{State, number_of, is_numbered, is_symbol, behind_variable, on_variable, behind_constant, on_constant, in_functor, on_functor, on_head, behind_comma, behind_functor, on_mark, behind, step, Reaches, further_on}
use Rattle.uc_system.proofs.Counting.{seen_after, Counts, after_both, counts_split}
use Rattle.uc_system.proofs.Decimals.{decimal_value, decimal_digits}
use Rattle.uc_system.proofs.Passes.{is_named, behind_byte}

module _ (table : Table) (precedence : List Sym) (text : List ℕ) (tokens : List Token) where
  abbrev Step : State → Option State
  Step = step table precedence text tokens

  abbrev Leads : State → State → Type 0
  Leads = Reaches table precedence text tokens

  abbrev IsSideOf : Tree → Type 0
  IsSideOf t = IsTerm (In precedence) (arity_of table) t

  abbrev AreSidesOf : Trees → Type 0
  AreSidesOf ts = AreOver (In precedence) (arity_of table) (λ _. Unit {0}) ts

  -- ONE STEP

  at_head : (s : State) → s.behind_term ≡ false → (h : Head) → head_at text tokens s.at ≡ h → Step s ≡ on_head table precedence text tokens s h
  at_head s b h e = ap (λ x. if x then behind table precedence text tokens s s.pending else on_head table precedence text tokens s (head_at text tokens s.at)) b ∙ ap (on_head table precedence text tokens s) e

  at_mark : (s : State) (p : Pending) (ps : List Pending) → s.behind_term ≡ true → s.pending ≡ p ∷ ps → (x : Terminal) → terminal_at text tokens s.at ≡ x → Step s ≡ on_mark table precedence text tokens s p ps x
  at_mark s p ps b q x e = ap (λ y. if y then behind table precedence text tokens s s.pending else on_head table precedence text tokens s (head_at text tokens s.at)) b ∙ ap (behind table precedence text tokens s) q ∙ ap (on_mark table precedence text tokens s p ps) e

  chosen : (b : Bool) (s : State) → b ≡ true → (if b then Some s else None) ≡ Some s
  chosen b s e = rw e refl

  in_number : (seen x : ℕ) → x ≤ seen → is_numbered seen (x + 1) ≡ true
  in_number seen x h = and_from (nat_le 1 (x + 1)) (nat_le (x + 1) (seen + 1)) (one x) (few seen x h)
    where
      one : (x : ℕ) → nat_le 1 (x + 1) ≡ true
      one x = grind (arith, nat_tests)

      few : (seen x : ℕ) → x ≤ seen → nat_le (x + 1) (seen + 1) ≡ true
      few seen x h = grind (arith, nat_tests)

  number_is : (x : ℕ) → IsNumbered x → number_of (variable_text x) ≡ x + 1
  number_is x h = rw (decimal_digits (x + 1) (omega (arith, h))) (decimal_value (x + 1) (omega (arith, h)))

  plain_functor : (s : State) (x : Terminal) → x ≢ terminal.Open → on_functor table precedence text tokens s x ≡ on_constant table precedence text tokens s
  plain_functor s terminal.Open n = absurd (n refl)
  plain_functor s other n = refl

  not_open : (ts : Trees) (at pos : ℕ) (ps : List Piece) → Here text tokens at pos (rest_pieces table ts ps) → terminal_at text tokens at ≢ terminal.Open
  not_open none at pos ps here h = let e = (mark_facts table text tokens 41 at pos ps here).terminal in cc
  not_open (more t ts) at pos ps here h = let e = (mark_facts table text tokens 44 at pos (term_pieces table t (rest_pieces table ts ps)) here).terminal in cc

  -- the word of a printed functor
  word_is : (f : Sym) (at pos : ℕ) (ps : List Piece) → IsPrintableSymbol table f → Facts text tokens at pos (kind_of_word (name_of table f)) (spelling (name_of table f)) ps → word_at text tokens at ≡ name_of table f
  word_is f at pos ps printable facts = facts.word ∙ stands_for_spelling (name_of table f)

  same_state : (a b : State) → a.at ≡ b.at → a.behind_term ≡ b.behind_term → a.pending ≡ b.pending → a.seen ≡ b.seen → a.nodes ≡ b.nodes → a.text ≡ b.text → a ≡ b
  same_state a b e f g h i j = (λ k. record { at = e k; behind_term = f k; pending = g k; seen = h k; nodes = i k; text = j k })

  -- WHOLE TERMS

  -- behind a term
  abbrev pub behind_tree : State → Tree → State
  behind_tree s t = record s { at = s.at + width t; behind_term = true; seen = seen_after s.seen (variables t); nodes = s.nodes + nodes t; text = s.text ++ term_text table t }

  -- behind the arguments after one, and the closing bracket
  abbrev behind_rest : State → List Pending → Trees → State
  behind_rest s qs ts = record s { at = s.at + rest_width ts; behind_term = true; pending = qs; seen = seen_after s.seen (variables_all ts); nodes = s.nodes + nodes_all ts; text = s.text ++ rest_text table ts }

  module _ (a : State) where
    mutual
      pub term_passed : (t : Tree) (s : State) (pos : ℕ) (ps : List Piece) → IsSideOf t → IsReadable table t → Counts s.seen (variables t) → s.behind_term ≡ false → Here text tokens s.at pos (term_pieces table t ps) → terminal_at text tokens (s.at + width t) ≢ terminal.Open → Leads a s → Leads a (behind_tree s t)
      term_passed (var x) s pos ps over readable c b here alone r =
          let facts = variable_facts table text tokens x s.at pos ps here in
          let head : head_at text tokens s.at ≡ Variable = ap head_of facts.terminal in
          let number : number_of (bytes_at text tokens s.at) ≡ x + 1 = ap number_of facts.bytes ∙ number_is x readable in
          further_on r (at_head s b Variable head ∙ ap (on_variable s) number ∙ chosen (is_numbered s.seen (x + 1)) (behind_variable s (x + 1)) (in_number s.seen x c.0))
      term_passed (app f none) s pos ps over readable c b here alone r =
          let facts = word_facts table text tokens f s.at pos ps readable.0 here in
          let head : head_at text tokens s.at ≡ Functor = ap head_of facts.terminal ∙ functor_head (name_of table f) _ in
          let name : word_at text tokens s.at ≡ name_of table f = word_is f s.at pos ps readable.0 facts in
          let known : is_symbol table precedence (word_at text tokens s.at) 0 ≡ true = ap₂ (λ w n. is_symbol table precedence w n) name over.1 ∙ is_named table precedence f over.0 in
          let stepped : Step s ≡ Some (behind_constant (word_at text tokens s.at) s) = at_head s b Functor head ∙ plain_functor s (terminal_at text tokens (s.at + 1)) alone ∙ chosen (is_symbol table precedence (word_at text tokens s.at) 0) (behind_constant (word_at text tokens s.at) s) known in
          subst (Leads a) (same_state (behind_constant (word_at text tokens s.at) s) (behind_tree s (app f none)) refl refl refl refl refl (ap (λ w. s.text ++ spelling w) name ∙ ap (λ w. s.text ++ w) (sym (append-nil (spelling (name_of table f)))))) (further_on r stepped)
      term_passed (app f (more t ts)) s pos ps over readable c b here alone r =
          let inner : List Piece = term_pieces table t (rest_pieces table ts ps) in
          let facts = word_facts table text tokens f s.at pos (args_pieces table (more t ts) ps) readable.0 here in
          let head : head_at text tokens s.at ≡ Functor = ap head_of facts.terminal ∙ functor_head (name_of table f) _ in
          let name : word_at text tokens s.at ≡ name_of table f = word_is f s.at pos (args_pieces table (more t ts) ps) readable.0 facts in
          let bracket = mark_facts table text tokens 40 (s.at + 1) (pos + length (spelling (name_of table f))) inner facts.next in
          let stepped : Step s ≡ Some (in_functor (word_at text tokens s.at) s) = at_head s b Functor head ∙ ap (on_functor table precedence text tokens s) bracket.terminal in
          let inside : State = in_functor (word_at text tokens s.at) s in
          let here_inside = moved text tokens (s.at + 1 + 1) (s.at + 2) (pos + length (spelling (name_of table f)) + 1) inner (omega arith) bracket.next in
          let counts = counts_split s.seen (variables t) (variables_all ts) c in
          let behind_first = passed table text tokens t (s.at + 2) (pos + length (spelling (name_of table f)) + 1) (rest_pieces table ts ps) readable.2.0 here_inside in
          let first = term_passed t inside (pos + length (spelling (name_of table f)) + 1) (rest_pieces table ts ps) over.2.0 readable.2.0 counts.0 b here_inside (not_open ts (s.at + 2 + width t) behind_first.0 ps behind_first.1) (further_on r stepped) in
          let rest = rest_passed ts (behind_tree inside t) (record { functor = s.at; arguments = 1 }) s.pending f behind_first.0 ps over.2.1 readable.2.1 counts.1 refl refl over.0 name (omega (arith, over.1)) (omega (arith, over.1, readable.0.2)) behind_first.1 first in
          subst (Leads a) (same_state (behind_rest (behind_tree inside t) s.pending ts) (behind_tree s (app f (more t ts)))
          (omega arith) refl refl (sym (after_both s.seen (variables t) (variables_all ts))) (omega arith)
          (behind_byte 40 (s.text ++ spelling (word_at text tokens s.at)) (term_text table t) (rest_text table ts)
          ∙ append_assoc s.text (spelling (word_at text tokens s.at)) (40 ∷ (term_text table t ++ rest_text table ts))
          ∙ ap (λ w. s.text ++ (spelling w ++ (40 ∷ (term_text table t ++ rest_text table ts)))) name)) rest

      rest_passed : (ts : Trees) (s : State) (p : Pending) (qs : List Pending) (f : Sym) (pos : ℕ) (ps : List Piece) → AreSidesOf ts → ArePrintable table ts → Counts s.seen (variables_all ts) → s.behind_term ≡ true → s.pending ≡ p ∷ qs → In precedence f → word_at text tokens p.functor ≡ name_of table f → p.arguments + count ts ≡ arity_of table f → p.arguments + count ts ≤ 255 → Here text tokens s.at pos (rest_pieces table ts ps) → Leads a s → Leads a (behind_rest s qs ts)
      rest_passed none s p qs f pos ps over readable c b q known name many few here r =
          let facts = mark_facts table text tokens 41 s.at pos ps here in
          let is_known : is_symbol table precedence (word_at text tokens p.functor) p.arguments ≡ true = ap₂ (λ w n. is_symbol table precedence w n) name (omega (arith, many)) ∙ is_named table precedence f known in
          let stepped : Step s ≡ Some (behind_functor s qs) = at_mark s p qs b q terminal.Close facts.terminal ∙ chosen (is_symbol table precedence (word_at text tokens p.functor) p.arguments) (behind_functor s qs) is_known in
          subst (Leads a) (same_state (behind_functor s qs) (behind_rest s qs none) refl b refl refl (omega arith) refl) (further_on r stepped)
      rest_passed (more t ts) s p qs f pos ps over readable c b q known name many few here r =
          let facts = mark_facts table text tokens 44 s.at pos (term_pieces table t (rest_pieces table ts ps)) here in
          let room : nat_lt p.arguments 255 ≡ true = under p.arguments (omega (arith, few)) in
          let next : State = behind_comma s p qs in
          let stepped : Step s ≡ Some next = at_mark s p qs b q terminal.Comma facts.terminal ∙ chosen (nat_lt p.arguments 255) next room in
          let counts = counts_split s.seen (variables t) (variables_all ts) c in
          let behind_it = passed table text tokens t (s.at + 1) (pos + 1) (rest_pieces table ts ps) readable.0 facts.next in
          let first = term_passed t next (pos + 1) (rest_pieces table ts ps) over.0 readable.0 counts.0 refl facts.next (not_open ts (s.at + 1 + width t) behind_it.0 ps behind_it.1) (further_on r stepped) in
          let rest = rest_passed ts (behind_tree next t) (record p { arguments = p.arguments + 1 }) qs f behind_it.0 ps over.1 readable.1 counts.1 refl refl known name (omega (arith, many)) (omega (arith, few)) behind_it.1 first in
          subst (Leads a) (same_state (behind_rest (behind_tree next t) qs ts) (behind_rest s qs (more t ts))
          (omega arith) refl refl (sym (after_both s.seen (variables t) (variables_all ts))) (omega arith)
          (behind_byte 44 s.text (term_text table t) (rest_text table ts))) rest
        where
          under : (n : ℕ) → n < 255 → nat_lt n 255 ≡ true
          under n h = grind (arith, nat_tests)
