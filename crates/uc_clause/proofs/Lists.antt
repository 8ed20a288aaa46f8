-- How lists of names are read.
use Rattle.std.proofs.Common.{◌≡◌, ℕ, ◌+◌, ◌<◌, List, [], ◌∷◌, ◌++◌, refl, ap, arith, append_assoc}
use Rattle.std.specs.Prelude.{◌≢◌, Option, Some, None}
use Rattle.uc_clause.specs.declared.token.Token.{Token}
use Rattle.uc_clause.specs.declared.terminal.Terminal.TheVariants.{CloseSquare, Comma}
use Rattle.uc_clause.specs.declared.grammar.stop.Why.{Why}
use Rattle.uc_clause.specs.declared.grammar.stop.Why.TheVariants.{NoToken}
use Rattle.uc_clause.specs.declared.grammar.stop.Stop.{Stop}
use Rattle.uc_clause.specs.Terminals.{terminal_at}
use Rattle.uc_clause.specs.Rules.{Outcome, read, stop, mapped, read_or_stop, Stops}
use Rattle.uc_clause.specs.Items.{name, name_by, Names, stops_in_name, is_last_name, is_name, stops_behind_name}
use Rattle.uc_clause.proofs.Sequences.{passes}

-- these members, and then the others
abbrev pub after : {A : Type 0} → List A → Outcome (List A) → Outcome (List A)
after xs o = mapped (λ ys. xs ++ ys) o

pub after_none : {A : Type 0} (o : Outcome (List A)) → after [] o ≡ o
after_none (read ys end) = refl
after_none (stop why k) = refl

pub after_one : {A : Type 0} (xs : List A) (x : A) (o : Outcome (List A)) → after (xs ++ x ∷ []) o ≡ after xs (mapped (λ ys. x ∷ ys) o)
after_one xs x (read ys end) = ap (λ zs. read zs end) (append_assoc xs (x ∷ []) ys)
after_one xs x (stop why k) = refl

-- whatever the names from `at` on come to, with those before them the list comes to
abbrev pub Lists : List ℕ → List Token → ℕ → List ℕ → ℕ → Type 0
Lists bytes tokens from names at = (o : Outcome (List ℕ)) → Names bytes tokens at o → Names bytes tokens from (after names o)

module _ (bytes : List ℕ) (tokens : List Token) (from at : ℕ) (names : List ℕ) (lists : Lists bytes tokens from names at) where
  pub name_stops : (e : Stop) → Stops (name bytes tokens at) e → Stops (Names bytes tokens from) e
  name_stops e h = passes (name bytes tokens at) (Names bytes tokens from) e (λ why k s. lists (stop why k) (stops_in_name s)) h

  module _ (n end : ℕ) (reads : name bytes tokens at (read n end)) where
    pub last_name : terminal_at bytes tokens end ≡ CloseSquare → Names bytes tokens from (read (names ++ n ∷ []) (end + 1))
    last_name e = lists (read (n ∷ []) (end + 1)) (is_last_name reads e)

    pub next_name : terminal_at bytes tokens end ≡ Comma → Lists bytes tokens from (names ++ n ∷ []) (end + 1)
    next_name e o rest = rw (after_one names n o) (lists (mapped (λ ys. n ∷ ys) o) (is_name reads e rest))

    pub no_name : terminal_at bytes tokens end ≢ CloseSquare → terminal_at bytes tokens end ≢ Comma → Names bytes tokens from (stop NoToken end)
    no_name c d = lists (stop NoToken end) (stops_behind_name reads c d)

pub pick_end : {V : Type 0} (why : Why) (value : Option V) (at : ℕ) (v : V) (end : ℕ) → read v end ≡ read_or_stop why value at → end ≡ at + 1
pick_end why (Some w) at v end e = cc
pick_end why None at v end e = cc

pub name_end : (bytes : List ℕ) (tokens : List Token) (at n end : ℕ) → name bytes tokens at (read n end) → at < end
name_end bytes tokens at n end r = omega (arith, pick_end NoToken (name_by (terminal_at bytes tokens at) at) at n end r)
