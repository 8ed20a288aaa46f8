-- A printed equation is read again.
use Rattle.std.proofs.Common.{◌≡◌, ◌≢◌, ℕ, ◌+◌, ◌≤◌, true, List, [], ◌++◌, map, refl, sym, ap, ap₂, ◌∙◌, subst, append_assoc, append-nil, arith, Some}
use Rattle.uc_term.specs.declared.equation.Equation.{Equation}
use Rattle.uc_term.specs.Tree.{nodes}
use Rattle.uc_term.specs.Table.{Table}
use Rattle.uc_term.specs.Variables.{variables, place_of, renumbered_by}
use Rattle.uc_clause.specs.declared.token.Token.{Token}
use Rattle.uc_clause.specs.declared.terminal.Terminal.{Terminal}
use Rattle.uc_clause.specs.declared.terminal.Terminal.TheVariants as terminal
use Rattle.uc_clause.specs.Rules.{goes_on}
use Rattle.uc_clause.specs.Meaning.{with_names, variables_in}
use Rattle.uc_clause.specs.Items.{sign_of}
use Rattle.uc_clause.specs.Printing.{term_text, sign_text, equation_text, variable_text}
use Rattle.uc_clause.specs.Reading.{ReadsEquation}
use Rattle.uc_clause.proofs.Joined.{Piece, AreApart, joined, tokens_of, cut_pieces}
use Rattle.uc_clause.proofs.Printed.{IsReadable, Here, term_pieces, joined_term, apart_term, width, parse_at, at_end}
use Rattle.uc_clause.proofs.PrintedClause.{sign_pieces, joined_sign, sign_apart, sign_parts}
use Rattle.uc_clause.proofs.ClauseAgain.{sign_facts}
use Rattle.uc_clause.proofs.ReadBack.{passed, term_reads, term_means, term_names, known_split}
use Rattle.uc_clause.proofs.Renumbering.{term_numbered, names_of_both, known_firsts}
use Rattle.uc_system.specs.Facts.{fact_variables}

module _ (table : Table) where
  abbrev pub pieces : Equation → List Piece
  pieces e = term_pieces table e.left (sign_pieces true (term_pieces table e.right []))

  pub joined_equation : (e : Equation) → joined (pieces e) ≡ equation_text table true e.left e.right
  joined_equation e =
      joined_term table e.left (sign_pieces true (term_pieces table e.right []))
      ∙ ap (λ x. term_text table e.left ++ x) (joined_sign true (term_pieces table e.right []) ∙ ap (λ x. sign_text true ++ x) (joined_term table e.right [] ∙ append-nil (term_text table e.right)))
      ∙ sym (append_assoc (term_text table e.left) (sign_text true) (term_text table e.right))

  pub equal_sign : (t : Terminal) → sign_of t ≡ Some true → t ≡ terminal.Equal
  equal_sign terminal.Equal e = refl
  equal_sign v e = absurd cc

  pub end_or_open : (t : Terminal) → t ≡ terminal.End → t ≢ terminal.Open
  end_or_open t e h = cc

  joined_again : (e : Equation) → IsReadable table e.left → IsReadable table e.right → nodes e.left ≤ 4096 → nodes e.right ≤ 4096 → ReadsEquation (joined (pieces e)) table (renumbered_by (fact_variables e) e.left, renumbered_by (fact_variables e) e.right)
  joined_again e left right small_left small_right =
      let text : List ℕ = joined (pieces e) in
      let tokens : List Token = tokens_of text 0 (pieces e) in
      let right_pieces : List Piece = term_pieces table e.right [] in
      let right_apart : AreApart right_pieces = apart_term table e.right [] right tt refl in
      let apart : AreApart (pieces e) = apart_term table e.left (sign_pieces true right_pieces) left (sign_apart true right_pieces right_apart) (sign_parts true right_pieces) in
      let here : Here text tokens 0 0 (pieces e) = record { bytes = refl; lexed = refl } in
      let left_behind = passed table text tokens e.left 0 0 (sign_pieces true right_pieces) left here in
      let sign = sign_facts table text tokens true (0 + width e.left) left_behind.0 right_pieces left_behind.1 in
      let right_here = sign.behind.1 in
      let right_behind = passed table text tokens e.right (0 + width e.left + 1) sign.behind.0 [] right right_here in
      let end = at_end text tokens (0 + width e.left + 1 + width e.right) right_behind.0 right_behind.1 in
      let left_reads = term_reads table text tokens e.left 0 0 0 (sign_pieces true right_pieces) left (omega arith) here sign.not_open in
      let right_reads = term_reads table text tokens e.right 0 (0 + width e.left + 1) sign.behind.0 [] right (omega arith) right_here (end_or_open _ end) in
      let known = known_split (map variable_text (fact_variables e)) (place_of (fact_variables e)) (variables e.left) (variables e.right) (known_firsts (variables e.left ++ variables e.right)) in
      let names : with_names (with_names [] (variables_in text tokens (parse_at 0 e.left))) (variables_in text tokens (parse_at (0 + width e.left + 1) e.right)) ≡ map variable_text (fact_variables e) =
      ap₂ (λ a b. with_names (with_names [] a) b) (term_names table text tokens e.left 0 0 (sign_pieces true right_pieces) left here) (term_names table text tokens e.right (0 + width e.left + 1) sign.behind.0 [] right right_here) ∙ names_of_both (variables e.left) (variables e.right) (term_numbered table e.left left) (term_numbered table e.right right) in
      record {
        tokens = tokens;
        are_tokens = cut_pieces (pieces e) apart;
        parse = record { left = parse_at 0 e.left; right = parse_at (0 + width e.left + 1) e.right };
        end = 0 + width e.left + 1 + width e.right + 1;
        reads = goes_on (goes_on refl (goes_on left_reads (goes_on (equal_sign _ sign.is_read, refl) (goes_on right_reads refl)))) (goes_on (end, refl) refl);
        means = record {
          means_left = rw names (term_means table text tokens (map variable_text (fact_variables e)) (place_of (fact_variables e)) e.left 0 0 (sign_pieces true right_pieces) left known.0 here);
          means_right = rw names (term_means table text tokens (map variable_text (fact_variables e)) (place_of (fact_variables e)) e.right (0 + width e.left + 1) sign.behind.0 [] right known.1 right_here);
        };
      }

  pub equation_again : (e : Equation) → IsReadable table e.left → IsReadable table e.right → nodes e.left ≤ 4096 → nodes e.right ≤ 4096 → ReadsEquation (equation_text table true e.left e.right) table (renumbered_by (fact_variables e) e.left, renumbered_by (fact_variables e) e.right)
  equation_again e left right small_left small_right = subst (λ text. ReadsEquation text table (renumbered_by (fact_variables e) e.left, renumbered_by (fact_variables e) e.right)) (joined_equation e) (joined_again e left right small_left small_right)
