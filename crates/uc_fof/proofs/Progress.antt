-- What is read ends behind where it begins.
use Rattle.std.proofs.Common.{◌≡◌, ℕ, ◌+◌, ◌<◌, ◌≤◌, List, Bool, true, false, arith}
use Rattle.std.specs.Prelude.{Option, Some, None}
use Rattle.uc_clause.specs.declared.token.Token.{Token}
use Rattle.uc_clause.specs.Rules as clause
use Rattle.uc_clause.specs.Parse.{Parse, Parses, Literal}
use Rattle.uc_clause.specs.Parse as parse
use Rattle.uc_clause.specs.Items as items
use Rattle.uc_clause.specs.Meaning.{Variables}
use Rattle.uc_clause.proofs.Progress as clauses
use Rattle.uc_clause.proofs.Lists.{name_end as name_behind}
use Rattle.uc_fof.specs.declared.notes.Bracket.{Bracket}
use Rattle.uc_fof.specs.declared.stop.Reason.{Reason}
use Rattle.uc_fof.specs.Rules.{Outcome, read, stop, Rule, mapped, Then, goes_on, stops_first, the, read_or_stop, gives, here, stops, Choice, is_first, is_second, AsIn, as_in, outside}
use Rattle.uc_fof.specs.Parse.{Entry, item, stated}
use Rattle.uc_fof.specs.Terms.{Term, Args, is_variable, is_free, is_constant, is_applied, is_node_too_many, is_no_term, stops_in_it, is_last, is_followed, is_one_too_many, is_followed_by_neither}
use Rattle.uc_fof.specs.Notes as notes
use Rattle.uc_fof.specs.Formulas as formulas
use Rattle.uc_fof.proofs.UpperLists.{quantifier_ahead}

abbrev pub Ahead : {V : Type 0} → ℕ → Outcome V → Type 0
Ahead at (read v end) = at < end
Ahead at (stop reason k) = Unit {0}

abbrev pub NotBehind : {V : Type 0} → ℕ → Outcome V → Type 0
NotBehind at (read v end) = at ≤ end
NotBehind at (stop reason k) = Unit {0}

abbrev pub GoesAhead : {V : Type 0} → Rule V → Type 0
GoesAhead {V} rule = (at : ℕ) (o : Outcome V) → rule at o → Ahead at o

abbrev pub GoesNotBack : {V : Type 0} → Rule V → Type 0
GoesNotBack {V} rule = (at : ℕ) (o : Outcome V) → rule at o → NotBehind at o

ahead_mapped : {V W : Type 0} (f : V → W) (from at : ℕ) (o : Outcome V) → from ≤ at → Ahead at o → Ahead from (mapped f o)
ahead_mapped f from at (read v end) h a = omega arith
ahead_mapped f from at (stop reason k) h a = tt

ahead_weaker : {V : Type 0} (from at : ℕ) (o : Outcome V) → from ≤ at → Ahead at o → Ahead from o
ahead_weaker from at (read v end) h a = omega arith
ahead_weaker from at (stop reason k) h a = tt

ahead_over : {V : Type 0} (from at : ℕ) (o : Outcome V) → from < at → NotBehind at o → Ahead from o
ahead_over from at (read v end) h a = omega arith
ahead_over from at (stop reason k) h a = tt

behind_over : {V : Type 0} (from at : ℕ) (o : Outcome V) → from ≤ at → NotBehind at o → NotBehind from o
behind_over from at (read v end) h a = omega arith
behind_over from at (stop reason k) h a = tt

not_back : {V : Type 0} (rule : Rule V) → GoesAhead rule → GoesNotBack rule
not_back rule ahead at (read v end) x = let h = ahead at (read v end) x in omega arith
not_back rule ahead at (stop reason k) x = tt

ahead_then_at : {V W : Type 0} (first : Rule V) (next : V → Rule W) → GoesAhead first → ((v : V) → GoesNotBack (next v)) → (at : ℕ) {o : Outcome W} → Then first next at o → Ahead at o
ahead_then_at first next a b at {o} (goes_on {v = v} {middle = m} x n) = ahead_over at m o (a at (read v m) x) (b v m o n)
ahead_then_at first next a b at (stops_first x) = tt

ahead_then : {V W : Type 0} (first : Rule V) (next : V → Rule W) → GoesAhead first → ((v : V) → GoesNotBack (next v)) → GoesAhead (Then first next)
ahead_then first next a b at o x = ahead_then_at first next a b at x

then_ahead_at : {V W : Type 0} (first : Rule V) (next : V → Rule W) → GoesNotBack first → ((v : V) → GoesAhead (next v)) → (at : ℕ) {o : Outcome W} → Then first next at o → Ahead at o
then_ahead_at first next a b at {o} (goes_on {v = v} {middle = m} x n) = ahead_weaker at m o (a at (read v m) x) (b v m o n)
then_ahead_at first next a b at (stops_first x) = tt

then_ahead : {V W : Type 0} (first : Rule V) (next : V → Rule W) → GoesNotBack first → ((v : V) → GoesAhead (next v)) → GoesAhead (Then first next)
then_ahead first next a b at o x = then_ahead_at first next a b at x

here_not_back : GoesNotBack here
here_not_back at (read v end) x = let e : end ≡ at = cc in omega arith
here_not_back at (stop reason k) x = tt

gives_not_back : {V : Type 0} (v : V) → GoesNotBack (gives v)
gives_not_back v at (read w end) x = let e : end ≡ at = cc in omega arith
gives_not_back v at (stop reason k) x = tt

pick_ahead_at : {V : Type 0} (reason : Reason) (value : Option V) (at : ℕ) (o : Outcome V) → o ≡ read_or_stop reason value at → Ahead at o
pick_ahead_at reason (Some w) at (read v end) e = let h : end ≡ at + 1 = cc in omega arith
pick_ahead_at reason None at (read v end) e = absurd (cc)
pick_ahead_at reason value at (stop other k) e = tt

the_ahead : (passes : ℕ → Type 0) (reason : Reason) → GoesAhead (the passes reason)
the_ahead passes reason at (read v end) x = omega (arith, x.1)
the_ahead passes reason at (stop other k) x = tt

stops_ahead : {V : Type 0} (reason : Reason) → GoesAhead (stops {V = V} reason)
stops_ahead reason at (read v end) x = absurd (cc)
stops_ahead reason at (stop other k) x = tt

choice_ahead : {V : Type 0} (passes : ℕ → Type 0) (first second : Rule V) → GoesAhead first → GoesAhead second → GoesAhead (Choice passes first second)
choice_ahead passes first second a b at o (is_first e x) = a at o x
choice_ahead passes first second a b at o (is_second e x) = b at o x

outside_ahead : {V : Type 0} (at : ℕ) (o : clause.Outcome V) → clauses.Ahead at o → Ahead at (outside o)
outside_ahead at (clause.read v end) h = h
outside_ahead at (clause.stop why k) h = tt

as_in_ahead_at : {V : Type 0} (rule : clause.Rule V) → clauses.GoesAhead rule → {at : ℕ} {o : Outcome V} → AsIn rule at o → Ahead at o
as_in_ahead_at rule a {at} (as_in {outcome = o} x) = outside_ahead at o (a at o x)

-- one token and then what goes not back
token_then : {W : Type 0} (passes : ℕ → Type 0) (reason : Reason) (next : Unit {0} → Rule W) → ((u : Unit {0}) → GoesNotBack (next u)) → GoesAhead (Then (the passes reason) next)
token_then passes reason next b = ahead_then (the passes reason) next (the_ahead passes reason) b

token_back : {W : Type 0} (passes : ℕ → Type 0) (reason : Reason) (next : Unit {0} → Rule W) → ((u : Unit {0}) → GoesNotBack (next u)) → GoesNotBack (Then (the passes reason) next)
token_back passes reason next b = not_back (Then (the passes reason) next) (token_then passes reason next b)

-- what goes ahead and then what goes not back
part_back : {V W : Type 0} (first : Rule V) (next : V → Rule W) → GoesAhead first → ((v : V) → GoesNotBack (next v)) → GoesNotBack (Then first next)
part_back first next a b = not_back (Then first next) (ahead_then first next a b)

behind_then_at : {V W : Type 0} (first : Rule V) (next : V → Rule W) → GoesNotBack first → ((v : V) → GoesNotBack (next v)) → (at : ℕ) {o : Outcome W} → Then first next at o → NotBehind at o
behind_then_at first next a b at {o} (goes_on {v = v} {middle = m} x n) = let h = a at (read v m) x in behind_over at m o (omega arith) (b v m o n)
behind_then_at first next a b at (stops_first x) = tt

behind_then : {V W : Type 0} (first : Rule V) (next : V → Rule W) → GoesNotBack first → ((v : V) → GoesNotBack (next v)) → GoesNotBack (Then first next)
behind_then first next a b at o x = behind_then_at first next a b at x

module _ (bytes : List ℕ) (tokens : List Token) where
  module _ (conjecture : Bool) (bound : Variables) where
    mutual
      term_ahead_at : {used at : ℕ} {o : Outcome Parse} → Term bytes tokens conjecture bound used at o → Ahead at o
      term_ahead_at (is_variable h r b) = omega arith
      term_ahead_at (is_free h r b) = tt
      term_ahead_at (is_constant h r a) = omega arith
      term_ahead_at (is_applied {at = at} {outcome = o} h r b args) = ahead_mapped _ at (at + 2) o (omega arith) (args_ahead_at args)
      term_ahead_at (is_node_too_many h r) = tt
      term_ahead_at (is_no_term h) = tt

      args_ahead_at : {functor number used at : ℕ} {o : Outcome Parses} → Args bytes tokens conjecture bound functor number used at o → Ahead at o
      args_ahead_at (stops_in_it x) = tt
      args_ahead_at (is_last x c) = let h = term_ahead_at x in omega arith
      args_ahead_at (is_followed {at = at} {end = end} {outcome = o} x c f args) = let h = term_ahead_at x in ahead_mapped _ at (end + 1) o (omega arith) (args_ahead_at args)
      args_ahead_at (is_one_too_many x c f) = tt
      args_ahead_at (is_followed_by_neither x c d) = tt

    term_ahead : GoesAhead (formulas.term bytes tokens conjecture bound)
    term_ahead at o x = term_ahead_at x

    right_ahead : GoesAhead (formulas.right_side bytes tokens conjecture bound)
    right_ahead = choice_ahead _ _ _ (stops_ahead _) term_ahead

    side_ahead : (positive : Bool) → GoesAhead (formulas.side_behind bytes tokens conjecture bound positive)
    side_ahead true = right_ahead
    side_ahead false = term_ahead

    equation_ahead : GoesAhead (formulas.equation bytes tokens conjecture bound)
    equation_ahead = then_ahead here _ here_not_back (λ first. ahead_then (formulas.term bytes tokens conjecture bound) _ term_ahead (λ left. part_back (formulas.sign bytes tokens conjecture bound first) _ (λ at o x. pick_ahead_at _ _ at o x) (λ positive. part_back (formulas.side_behind bytes tokens conjecture bound positive) _ (side_ahead positive) (λ right. gives_not_back _))))

    equals_ahead : GoesAhead (formulas.equals bytes tokens conjecture bound)
    equals_ahead = then_ahead here _ here_not_back (λ first. ahead_then (formulas.term bytes tokens conjecture bound) _ term_ahead (λ left. token_back _ _ _ (λ u. part_back (formulas.right_side bytes tokens conjecture bound) _ right_ahead (λ right. gives_not_back _))))

    brackets_ahead : GoesAhead (formulas.equals_in_brackets bytes tokens conjecture bound)
    brackets_ahead = token_then _ _ _ (λ u. part_back (formulas.equals bytes tokens conjecture bound) _ equals_ahead (λ sides. token_back _ _ _ (λ w. gives_not_back _)))

    denied_ahead : GoesAhead (formulas.denied bytes tokens conjecture bound)
    denied_ahead = choice_ahead _ _ _ (stops_ahead _) (choice_ahead _ _ _ brackets_ahead equals_ahead)

    literal_ahead : GoesAhead (formulas.literal bytes tokens conjecture bound)
    literal_ahead = choice_ahead _ _ _ (token_then _ _ _ (λ u. part_back (formulas.denied bytes tokens conjecture bound) _ denied_ahead (λ sides. gives_not_back _))) equation_ahead

  module _ (conjecture : Bool) where
    formula_ahead_at : {brackets at : ℕ} {bound : Variables} {o : Outcome Literal} → formulas.Formula bytes tokens conjecture brackets bound at o → Ahead at o
    formula_ahead_at {bound = bound} (formulas.is_bare {at = at} {outcome = o} n b q x) = literal_ahead conjecture bound at o x
    formula_ahead_at (formulas.is_bracketed e f x c) = let h = formula_ahead_at x in omega arith
    formula_ahead_at (formulas.is_not_closed e f x c) = tt
    formula_ahead_at (formulas.stops_in_brackets e f x) = tt
    formula_ahead_at (formulas.is_too_deep e f) = tt
    formula_ahead_at (formulas.is_quantified {at = at} {middle = m} {ns = ns} {outcome = o} n b q x) = let h = quantifier_ahead bytes tokens conjecture at ns m q in ahead_weaker at m o (omega arith) (formula_ahead_at x)
    formula_ahead_at (formulas.stops_in_quantifier n b q) = tt
    formula_ahead_at (formulas.is_unread n b) = tt

    formula_ahead : GoesAhead (formulas.formula bytes tokens conjecture)
    formula_ahead at o x = formula_ahead_at x

  rest_not_back : {bs : List Bracket} {at : ℕ} {o : Outcome (Unit {0})} → notes.Rest bytes tokens bs at o → NotBehind at o
  rest_not_back (notes.has_token {at = at} {outcome = o} e x) = behind_over at (at + 1) o (omega arith) (rest_not_back x)
  rest_not_back (notes.has_opening {at = at} {outcome = o} e x) = behind_over at (at + 1) o (omega arith) (rest_not_back x)
  rest_not_back (notes.has_closing {at = at} {outcome = o} e x) = behind_over at (at + 1) o (omega arith) (rest_not_back x)
  rest_not_back (notes.ends_before e) = omega arith
  rest_not_back (notes.stops_before e) = tt

  note_not_back_at : {at : ℕ} {o : Outcome (Unit {0})} → notes.Note bytes tokens at o → NotBehind at o
  note_not_back_at (notes.is_note n x) = rest_not_back x
  note_not_back_at (notes.is_no_note e) = tt

  note_not_back : GoesNotBack (notes.note bytes tokens)
  note_not_back at o x = note_not_back_at x

  note_then : {W : Type 0} (next : Unit {0} → Rule W) → ((u : Unit {0}) → GoesAhead (next u)) → GoesNotBack (Then (notes.note bytes tokens) next)
  note_then next b = not_back (Then (notes.note bytes tokens) next) (then_ahead (notes.note bytes tokens) next note_not_back b)

  more_ahead : GoesAhead (notes.more_notes bytes tokens)
  more_ahead = choice_ahead _ _ _ (token_then _ _ _ (λ u. note_then _ (λ w. the_ahead _ _))) (the_ahead _ _)

  notes_ahead : (conjecture : Bool) → GoesAhead (formulas.notes bytes tokens conjecture)
  notes_ahead conjecture = choice_ahead _ _ _ (token_then _ _ _ (λ u. note_then _ (λ w. more_ahead))) (the_ahead _ _)

  clause_name_ahead : clauses.GoesAhead (items.name bytes tokens)
  clause_name_ahead at (clause.read v end) x = name_behind bytes tokens at v end x
  clause_name_ahead at (clause.stop why k) x = tt

  heading_ahead : GoesAhead (formulas.heading bytes tokens)
  heading_ahead = then_ahead here _ here_not_back (λ first. token_then _ _ _ (λ a. token_back _ _ _ (λ b. part_back (AsIn (items.name bytes tokens)) _ (λ at o x. as_in_ahead_at (items.name bytes tokens) clause_name_ahead x) (λ name. token_back _ _ _ (λ c. behind_then here _ here_not_back (λ role_at. part_back (formulas.role bytes tokens) _ (λ at o x. pick_ahead_at _ _ at o x) (λ role. token_back _ _ _ (λ d. gives_not_back _))))))))

  fof_ahead : GoesAhead (formulas.fof bytes tokens)
  fof_ahead = ahead_then (formulas.heading bytes tokens) _ heading_ahead (λ heading. part_back (formulas.formula bytes tokens (formulas.is_conjecture heading.role)) _ (formula_ahead (formulas.is_conjecture heading.role)) (λ literal. part_back (formulas.notes bytes tokens (formulas.is_conjecture heading.role)) _ (notes_ahead (formulas.is_conjecture heading.role)) (λ u. token_back _ _ _ (λ w. gives_not_back _))))

  item_ahead_at : {at : ℕ} {o : Outcome Entry} → formulas.Item bytes tokens at o → Ahead at o
  item_ahead_at (formulas.is_stated {at = at} {outcome = o} e x) = ahead_mapped _ at at o (omega arith) (fof_ahead at o x)
  item_ahead_at (formulas.is_item {at = at} {outcome = o} e x) = ahead_mapped _ at at o (omega arith) (as_in_ahead_at (items.Item bytes tokens) (λ k p y. clauses.item_ahead bytes tokens y) x)

  pub item_ahead : (at end : ℕ) (e : Entry) → formulas.Item bytes tokens at (read e end) → at < end
  item_ahead at end e x = item_ahead_at x
