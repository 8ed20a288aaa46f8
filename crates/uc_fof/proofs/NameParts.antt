-- How a name is read.
use Rattle.std.proofs.Common.{◌≡◌, ℕ, ◌+◌, List, refl, sym, ap, ◌∙◌}
use Rattle.std.specs.Prelude.{◌≢◌, None}
use Rattle.uc_clause.specs.declared.token.Token.{Token}
use Rattle.uc_clause.specs.declared.terminal.Terminal.{Terminal}
use Rattle.uc_clause.specs.declared.terminal.Terminal.TheVariants.{Lower, Upper, Quoted, Distinct, Integer, Dollar, Unequal, Open, Close, OpenSquare, CloseSquare, Comma, Dot, Equal, Bar, Tilde, Star, OtherMark, End}
use Rattle.uc_clause.specs.declared.grammar.stop.Why.TheVariants.{NoToken}
use Rattle.uc_clause.specs.Terminals.{terminal_at}
use Rattle.uc_clause.specs.Rules as clause
use Rattle.uc_clause.specs.Items as items
use Rattle.uc_fof.specs.declared.stop.Reason.TheVariants.{Outside}
use Rattle.uc_fof.specs.Rules.{Outcome, read, stop, AsIn, as_in}

no_name : (t : Terminal) (at : ℕ) → t ≢ Lower → t ≢ Quoted → t ≢ Integer → items.name_by t at ≡ None
no_name Lower at l q i = absurd (l refl)
no_name Upper at l q i = refl
no_name Quoted at l q i = absurd (q refl)
no_name Distinct at l q i = refl
no_name Integer at l q i = absurd (i refl)
no_name Dollar at l q i = refl
no_name Unequal at l q i = refl
no_name Open at l q i = refl
no_name Close at l q i = refl
no_name OpenSquare at l q i = refl
no_name CloseSquare at l q i = refl
no_name Comma at l q i = refl
no_name Dot at l q i = refl
no_name Equal at l q i = refl
no_name Bar at l q i = refl
no_name Tilde at l q i = refl
no_name Star at l q i = refl
no_name OtherMark at l q i = refl
no_name End at l q i = refl

module _ (bytes : List ℕ) (tokens : List Token) (at : ℕ) where
  abbrev comes_to : Terminal → clause.Outcome ℕ
  comes_to t = clause.read_or_stop NoToken (items.name_by t at) at

  pub is_lower : Lower ≡ terminal_at bytes tokens at → AsIn (items.name bytes tokens) at (read at (at + 1))
  is_lower e = as_in {outcome = clause.read at (at + 1)} (ap comes_to e)

  pub is_quoted : Quoted ≡ terminal_at bytes tokens at → AsIn (items.name bytes tokens) at (read at (at + 1))
  is_quoted e = as_in {outcome = clause.read at (at + 1)} (ap comes_to e)

  pub is_integer : Integer ≡ terminal_at bytes tokens at → AsIn (items.name bytes tokens) at (read at (at + 1))
  is_integer e = as_in {outcome = clause.read at (at + 1)} (ap comes_to e)

  pub isnt_name : (t : Terminal) → t ≡ terminal_at bytes tokens at → t ≢ Lower → t ≢ Quoted → t ≢ Integer → AsIn (items.name bytes tokens) at (stop (Outside NoToken) at)
  isnt_name t e l q i = as_in {outcome = clause.stop NoToken at} (sym (ap (λ v. clause.read_or_stop NoToken v at) (ap (λ u. items.name_by u at) (sym e) ∙ no_name t at l q i)))
