-- How a loop reads the members of a list.
use Rattle.std.proofs.Common.{◌≡◌, ◌≢◌, ℕ, ◌+◌, Bool, true, false, List, [], ◌∷◌, ◌++◌, append_assoc, length, ◌<◌, Option, Some, None, refl, sym, ap, subst}
use Rattle.uc_clause.specs.declared.token.Token.{Token}
use Rattle.uc_clause.specs.declared.terminal.Terminal.TheVariants.{OpenSquare, CloseSquare, Comma}
use Rattle.uc_clause.specs.declared.grammar.stop.Why.TheVariants.{NoToken}
use Rattle.uc_clause.specs.declared.grammar.stop.Stop.{Stop}
use Rattle.uc_clause.specs.Terminals.{terminal_at}
use Rattle.uc_clause.specs.Rules.{Outcome, read, stop, Rule, mapped, pick, goes_on, stops_first, is_first, is_second, Stops}
use Rattle.uc_clause.proofs.Ends.{some_other}
use Rattle.uc_clause.proofs.Sequences.{passes}
use Rattle.uc_tstp.specs.Lines.{token, Members, stops_in_member, is_last_member, is_member, stops_behind_member, list}
use Rattle.uc_tstp.specs.Drafts.{IsNext, NoNext}

mapped_none : {V : Type 0} (o : Outcome (List V)) → mapped (λ vs. [] ++ vs) o ≡ o
mapped_none (read v end) = refl
mapped_none (stop why k) = refl

mapped_more : {V : Type 0} (vs : List V) (v : V) (o : Outcome (List V)) → mapped (λ us. vs ++ us) (mapped (λ us. v ∷ us) o) ≡ mapped (λ us. (vs ++ v ∷ []) ++ us) o
mapped_more vs v (read us end) = ap (λ l. read l end) (sym (append_assoc vs (v ∷ []) us))
mapped_more vs v (stop why k) = refl

module _ (bytes : List ℕ) (tokens : List Token) {V : Type 0} (member : Rule V) (from : ℕ) where
  -- whatever the members from a token on come to, all of them come to that behind these; or these are all
  abbrev pub Ahead : List V → Bool → ℕ → Type 0
  Ahead vs true at = (o : Outcome (List V)) → Members bytes tokens member at o → Members bytes tokens member from (mapped (λ us. vs ++ us) o)
  Ahead vs false at = Members bytes tokens member from (read vs at)

  pub ahead_none : Ahead [] true from
  ahead_none = λ o m. subst (λ p. Members bytes tokens member from p) (sym (mapped_none o)) m

  pub ahead_on : (vs : List V) (more : Bool) (at : ℕ) → more ≡ true → Ahead vs more at → Ahead vs true at
  ahead_on vs more at e a = subst (λ b. Ahead vs b at) e a

  pub ahead_more : (vs : List V) (v : V) (at end : ℕ) (more : Bool) → Ahead vs true at → member at (read v end) → IsNext bytes tokens end more → Ahead (vs ++ v ∷ []) more (end + 1)
  ahead_more vs v at end true ahead h next = λ o m. subst (λ p. Members bytes tokens member from p) (mapped_more vs v o) (ahead (mapped (λ us. v ∷ us) o) (is_member h next m))
  ahead_more vs v at end false ahead h next = ahead (read (v ∷ []) (end + 1)) (is_last_member h next)

  pub ahead_stops : (vs : List V) (at : ℕ) (e : Stop) → Ahead vs true at → Stops (member at) e → Stops (Members bytes tokens member from) e
  ahead_stops vs at e ahead h = passes (member at) (Members bytes tokens member from) e (λ why k s. ahead (stop why k) (stops_in_member s)) h

  pub ahead_behind : (vs : List V) (v : V) (at end : ℕ) (e : Stop) → Ahead vs true at → member at (read v end) → NoNext bytes tokens end e → Stops (Members bytes tokens member from) e
  ahead_behind vs v at end e ahead h none = subst (λ e. Stops (Members bytes tokens member from) e) (sym none.is) (ahead (stop NoToken end) (stops_behind_member h none.no_end none.no_comma))

  module _ (at : ℕ) (opened : token bytes tokens OpenSquare from (read tt at)) where
    pub list_none : terminal_at bytes tokens at ≡ CloseSquare → list bytes tokens member from (read [] (at + 1))
    list_none h = goes_on {v = tt} opened (is_first h (goes_on {v = tt} (h, refl) refl))

    pub list_some : (o : Outcome (List V)) → terminal_at bytes tokens at ≢ CloseSquare → Members bytes tokens member at o → list bytes tokens member from o
    list_some o h m = goes_on {v = tt} opened (is_second h m)

    pub list_stops : (e : Stop) → terminal_at bytes tokens at ≢ CloseSquare → Stops (Members bytes tokens member at) e → Stops (list bytes tokens member from) e
    list_stops e h m = passes (Members bytes tokens member at) (list bytes tokens member from) e (λ why k s. list_some (stop why k) h s) m

  pub list_unopened : (e : Stop) → Stops (token bytes tokens OpenSquare from) e → Stops (list bytes tokens member from) e
  list_unopened e h = passes (token bytes tokens OpenSquare from) (list bytes tokens member from) e (λ why k s. stops_first s) h

-- a comma and a bracket are tokens
pub next_within : (bytes : List ℕ) (tokens : List Token) (at : ℕ) (more : Bool) → IsNext bytes tokens at more → at < length tokens
next_within bytes tokens at true h = some_other bytes tokens at Comma h (λ e. cc)
next_within bytes tokens at false h = some_other bytes tokens at CloseSquare h (λ e. cc)

-- one token is read
pub picked_ahead : {V : Type 0} (v : Option V) (at end : ℕ) (w : V) → pick NoToken v at (read w end) → end ≡ at + 1
picked_ahead (Some v) at end w e = cc
picked_ahead None at end w e = absurd cc
