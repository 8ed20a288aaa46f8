-- What the parts of a join line make of the table of symbols.
use Rattle.std.proofs.Common.{◌≡◌, ℕ, List, ap, ◌∙◌}
use Rattle.uc_term.specs.Table.{Table}
use Rattle.uc_clause.specs.declared.token.Token.{Token}
use Rattle.uc_certificate.specs.declared.certificate.What.{What}
use Rattle.uc_certificate.specs.JoinParse.{Move, Case, Ending, Join}
use Rattle.uc_certificate.specs.Interning.{with_moves, with_case, with_ending, with_join}

module _ (bytes : List ℕ) (tokens : List Token) where
  pub interned_case : (old middle new : Table) (left right : List Move) (classes : List (List ℕ)) → middle ≡ with_moves bytes tokens old left → new ≡ with_moves bytes tokens middle right → new ≡ with_case bytes tokens old (record { cases = classes; left = left; right = right })
  interned_case old middle new left right classes x y = y ∙ ap (λ t. with_moves bytes tokens t right) x

  pub interned_join : (old one two new : Table) (left right : List Move) (ending : Ending) (what : What) → one ≡ with_moves bytes tokens old left → two ≡ with_moves bytes tokens one right → new ≡ with_ending bytes tokens two ending → new ≡ with_join bytes tokens old (record { what = what; left = left; right = right; ending = ending })
  interned_join old one two new left right ending what x y z = z ∙ ap (λ t. with_ending bytes tokens t ending) (y ∙ ap (λ t. with_moves bytes tokens t right) x)
