-- Which tokens read as a term, and where the others stop:
--
--   term    = Upper | functor [ ( term { , term } ) ]
--   functor = Lower | Quoted
use Rattle.std.specs.Prelude.{◌≡◌, ◌≢◌, ℕ, ◌+◌, ◌<◌, ◌≤◌, List}
use Rattle.uc_clause.specs.declared.token.Token.{Token}
use Rattle.uc_clause.specs.declared.terminal.Terminal.{Terminal}
use Rattle.uc_clause.specs.declared.terminal.Terminal.TheVariants.{Lower, Upper, Quoted, Open, Close, Comma}
use Rattle.uc_clause.specs.declared.grammar.head.Head.{Head}
use Rattle.uc_clause.specs.declared.grammar.head.Head.TheVariants.{Variable, Functor, Neither}
use Rattle.uc_clause.specs.declared.grammar.stop.Why.{Why}
use Rattle.uc_clause.specs.declared.grammar.stop.Why.TheVariants.{NoTerm, NoToken, Nodes, Arity}
use Rattle.uc_clause.specs.Terminals.{terminal_at}
use Rattle.uc_clause.specs.Rules.{Outcome, read, stop, mapped}
use Rattle.uc_clause.specs.Parse.{Parse, variable, applied, Parses, no_more, also, size}

-- what begins a term
abbrev pub head_of : Terminal → Head
head_of Upper = Variable
head_of Lower = Functor
head_of Quoted = Functor
head_of other = Neither

module _ (bytes : List ℕ) (tokens : List Token) where
  abbrev pub head_at : ℕ → Head
  head_at at = head_of (terminal_at bytes tokens at)

  mutual
    -- a term, or a part of one before which `used` of its nodes stand
    pub data Term : ℕ → ℕ → Outcome Parse → Type 0 where
      is_variable : {used at : ℕ} → head_at at ≡ Variable → used < 4096 → Term used at (read (variable at) (at + 1))
      is_constant : {used at : ℕ} → head_at at ≡ Functor → used < 4096 → terminal_at bytes tokens (at + 1) ≢ Open → Term used at (read (applied at no_more) (at + 1))
      is_applied : {used at : ℕ} {outcome : Outcome Parses} → head_at at ≡ Functor → used < 4096 → terminal_at bytes tokens (at + 1) ≡ Open → Args at 1 (used + 1) (at + 2) outcome → Term used at (mapped (applied at) outcome)
      is_node_too_many : {used at : ℕ} → head_at at ≢ Neither → 4096 ≤ used → Term used at (stop Nodes at)
      is_no_term : {used at : ℕ} → head_at at ≡ Neither → Term used at (stop NoTerm at)

    -- the arguments from this number on of the functor at a token, up to the closing bracket
    pub data Args : ℕ → ℕ → ℕ → ℕ → Outcome Parses → Type 0 where
      stops_in_it : {functor number used at k : ℕ} {why : Why} → Term used at (stop why k) → Args functor number used at (stop why k)
      is_last : {functor number used at end : ℕ} {p : Parse} → Term used at (read p end) → terminal_at bytes tokens end ≡ Close → Args functor number used at (read (also p no_more) (end + 1))
      is_followed : {functor number used at end : ℕ} {p : Parse} {outcome : Outcome Parses} → Term used at (read p end) → terminal_at bytes tokens end ≡ Comma → number < 255 → Args functor (number + 1) (used + size p) (end + 1) outcome → Args functor number used at (mapped (also p) outcome)
      is_one_too_many : {functor number used at end : ℕ} {p : Parse} → Term used at (read p end) → terminal_at bytes tokens end ≡ Comma → 255 ≤ number → Args functor number used at (stop Arity functor)
      is_followed_by_neither : {functor number used at end : ℕ} {p : Parse} → Term used at (read p end) → terminal_at bytes tokens end ≢ Close → terminal_at bytes tokens end ≢ Comma → Args functor number used at (stop NoToken end)
