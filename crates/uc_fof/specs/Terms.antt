-- Which tokens read as a term all of whose variables are bound, and where the others stop. It goes as in a clause, but that a
-- variable which no quantifier binds isn't read:
--
--   term    = Upper | functor [ ( term { , term } ) ]
--   functor = Lower | Quoted
use Rattle.std.specs.Prelude.{◌≡◌, ◌≢◌, ℕ, ◌+◌, ◌<◌, ◌≤◌, Bool, true, false, List, bytes_eq}
use Rattle.std.specs.List.{list_any}
use Rattle.uc_clause.specs.declared.token.Token.{Token}
use Rattle.uc_clause.specs.declared.terminal.Terminal.TheVariants.{Open, Close, Comma}
use Rattle.uc_clause.specs.declared.grammar.head.Head.TheVariants.{Variable, Functor, Neither}
use Rattle.uc_clause.specs.declared.grammar.stop.Why.TheVariants.{NoTerm, NoToken, Nodes, Arity}
use Rattle.uc_clause.specs.Terminals.{terminal_at, bytes_at}
use Rattle.uc_clause.specs.Parse.{Parse, variable, applied, Parses, no_more, also, size}
use Rattle.uc_clause.specs.Terms.{head_at}
use Rattle.uc_clause.specs.Meaning.{Variables}
use Rattle.uc_fof.specs.declared.stop.Reason.{Reason}
use Rattle.uc_fof.specs.declared.stop.Reason.TheVariants.{Inside, Unread}
use Rattle.uc_fof.specs.Rules.{Outcome, read, stop, mapped}

module _ (bytes : List ℕ) (tokens : List Token) where
  -- whether the token's name is among these, which quantifiers bind
  abbrev pub is_bound : Variables → ℕ → Bool
  is_bound bound at = list_any (bytes_eq (bytes_at bytes tokens at)) bound

  module _ (conjecture : Bool) (bound : Variables) where
    mutual
      -- a term, or a part of one before which `used` of its nodes stand
      pub data Term : ℕ → ℕ → Outcome Parse → Type 0 where
        is_variable : {used at : ℕ} → head_at bytes tokens at ≡ Variable → used < 4096 → is_bound bound at ≡ true → Term used at (read (variable at) (at + 1))
        is_free : {used at : ℕ} → head_at bytes tokens at ≡ Variable → used < 4096 → is_bound bound at ≡ false → Term used at (stop Unread at)
        is_constant : {used at : ℕ} → head_at bytes tokens at ≡ Functor → used < 4096 → terminal_at bytes tokens (at + 1) ≢ Open → Term used at (read (applied at no_more) (at + 1))
        is_applied : {used at : ℕ} {outcome : Outcome Parses} → head_at bytes tokens at ≡ Functor → used < 4096 → terminal_at bytes tokens (at + 1) ≡ Open → Args at 1 (used + 1) (at + 2) outcome → Term used at (mapped (applied at) outcome)
        is_node_too_many : {used at : ℕ} → head_at bytes tokens at ≢ Neither → 4096 ≤ used → Term used at (stop (Inside conjecture Nodes) at)
        is_no_term : {used at : ℕ} → head_at bytes tokens at ≡ Neither → Term used at (stop (Inside conjecture NoTerm) at)

      -- the arguments from this number on of the functor at a token, up to the closing bracket
      pub data Args : ℕ → ℕ → ℕ → ℕ → Outcome Parses → Type 0 where
        stops_in_it : {functor number used at k : ℕ} {reason : Reason} → Term used at (stop reason k) → Args functor number used at (stop reason k)
        is_last : {functor number used at end : ℕ} {p : Parse} → Term used at (read p end) → terminal_at bytes tokens end ≡ Close → Args functor number used at (read (also p no_more) (end + 1))
        is_followed : {functor number used at end : ℕ} {p : Parse} {outcome : Outcome Parses} → Term used at (read p end) → terminal_at bytes tokens end ≡ Comma → number < 255 → Args functor (number + 1) (used + size p) (end + 1) outcome → Args functor number used at (mapped (also p) outcome)
        is_one_too_many : {functor number used at end : ℕ} {p : Parse} → Term used at (read p end) → terminal_at bytes tokens end ≡ Comma → 255 ≤ number → Args functor number used at (stop (Inside conjecture Arity) functor)
        is_followed_by_neither : {functor number used at end : ℕ} {p : Parse} → Term used at (read p end) → terminal_at bytes tokens end ≢ Close → terminal_at bytes tokens end ≢ Comma → Args functor number used at (stop (Inside conjecture NoToken) end)
