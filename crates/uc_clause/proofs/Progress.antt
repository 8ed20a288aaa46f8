-- What is read ends behind where it begins.
use Rattle.std.proofs.Common.{◌≡◌, ℕ, ◌+◌, ◌<◌, ◌≤◌, List, arith}
use Rattle.std.specs.Prelude.{Option, Some, None}
use Rattle.uc_clause.specs.declared.token.Token.{Token}
use Rattle.uc_clause.specs.declared.terminal.Terminal.{Terminal}
use Rattle.uc_clause.specs.declared.terminal.Terminal.TheVariants.{Lower, Open, Close, Comma, Dot, Equal, Tilde, OpenSquare, CloseSquare}
use Rattle.uc_clause.specs.declared.grammar.note.Bracket.{Bracket}
use Rattle.uc_clause.specs.declared.grammar.stop.Why.{Why}
use Rattle.uc_clause.specs.declared.grammar.stop.Why.TheVariants.{NoItem, NoToken, NoSign, NoEnd, NoSelection}
use Rattle.uc_clause.specs.Rules.{Outcome, read, stop, Rule, mapped, Then, goes_on, stops_first, the, read_or_stop, gives, here, Choice, is_first, is_second}
use Rattle.uc_clause.specs.Parse.{Parse, Parses, Literal, Entry}
use Rattle.uc_clause.specs.Terms.{Term, Args, is_variable, is_constant, is_applied, is_node_too_many, is_no_term, stops_in_it, is_last, is_followed, is_one_too_many, is_followed_by_neither}
use Rattle.uc_clause.specs.Items as items

abbrev pub Ahead : {V : Type 0} → ℕ → Outcome V → Type 0
Ahead at (read v end) = at < end
Ahead at (stop why k) = Unit {0}

abbrev pub NotBehind : {V : Type 0} → ℕ → Outcome V → Type 0
NotBehind at (read v end) = at ≤ end
NotBehind at (stop why k) = Unit {0}

abbrev pub GoesAhead : {V : Type 0} → Rule V → Type 0
GoesAhead {V} rule = (at : ℕ) (o : Outcome V) → rule at o → Ahead at o

abbrev pub GoesNotBack : {V : Type 0} → Rule V → Type 0
GoesNotBack {V} rule = (at : ℕ) (o : Outcome V) → rule at o → NotBehind at o

ahead_mapped : {V W : Type 0} (f : V → W) (from at : ℕ) (o : Outcome V) → from ≤ at → Ahead at o → Ahead from (mapped f o)
ahead_mapped f from at (read v end) h a = omega arith
ahead_mapped f from at (stop why k) h a = tt

ahead_weaker : {V : Type 0} (from at : ℕ) (o : Outcome V) → from ≤ at → Ahead at o → Ahead from o
ahead_weaker from at (read v end) h a = omega arith
ahead_weaker from at (stop why k) h a = tt

ahead_over : {V : Type 0} (from at : ℕ) (o : Outcome V) → from < at → NotBehind at o → Ahead from o
ahead_over from at (read v end) h a = omega arith
ahead_over from at (stop why k) h a = tt

behind_over : {V : Type 0} (from at : ℕ) (o : Outcome V) → from ≤ at → NotBehind at o → NotBehind from o
behind_over from at (read v end) h a = omega arith
behind_over from at (stop why k) h a = tt

not_back : {V : Type 0} (rule : Rule V) → GoesAhead rule → GoesNotBack rule
not_back rule ahead at (read v end) x = let h = ahead at (read v end) x in omega arith
not_back rule ahead at (stop why k) x = tt

ahead_then_at : {V W : Type 0} (first : Rule V) (next : V → Rule W) → GoesAhead first → ((v : V) → GoesNotBack (next v)) → (at : ℕ) {o : Outcome W} → Then first next at o → Ahead at o
ahead_then_at first next a b at {o} (goes_on {v = v} {middle = m} x n) = ahead_over at m o (a at (read v m) x) (b v m o n)
ahead_then_at first next a b at (stops_first x) = tt

ahead_then : {V W : Type 0} (first : Rule V) (next : V → Rule W) → GoesAhead first → ((v : V) → GoesNotBack (next v)) → GoesAhead (Then first next)
ahead_then first next a b at o x = ahead_then_at first next a b at x

then_ahead_at : {V W : Type 0} (first : Rule V) (next : V → Rule W) → GoesNotBack first → ((v : V) → GoesAhead (next v)) → (at : ℕ) {o : Outcome W} → Then first next at o → Ahead at o
then_ahead_at first next a b at {o} (goes_on {v = v} {middle = m} x n) = ahead_weaker at m o (a at (read v m) x) (b v m o n)
then_ahead_at first next a b at (stops_first x) = tt

then_ahead : {V W : Type 0} (first : Rule V) (next : V → Rule W) → GoesNotBack first → ((v : V) → GoesAhead (next v)) → GoesAhead (Then first next)
then_ahead first next a b at o x = then_ahead_at first next a b at x

here_not_back : GoesNotBack here
here_not_back at (read v end) x = let e : end ≡ at = cc in omega arith
here_not_back at (stop why k) x = tt

gives_not_back : {V : Type 0} (v : V) → GoesNotBack (gives v)
gives_not_back v at (read w end) x = let e : end ≡ at = cc in omega arith
gives_not_back v at (stop why k) x = tt

pick_ahead_at : {V : Type 0} (why : Why) (value : Option V) (at : ℕ) (o : Outcome V) → o ≡ read_or_stop why value at → Ahead at o
pick_ahead_at why (Some w) at (read v end) e = let h : end ≡ at + 1 = cc in omega arith
pick_ahead_at why None at (read v end) e = absurd (cc)
pick_ahead_at why value at (stop other k) e = tt

module _ (bytes : List ℕ) (tokens : List Token) where
  the_ahead : (terminal : Terminal) (why : Why) → GoesAhead (the bytes tokens terminal why)
  the_ahead terminal why at (read v end) x = omega (arith, x.1)
  the_ahead terminal why at (stop other k) x = tt

  choice_ahead : {V : Type 0} (terminal : Terminal) (first second : Rule V) → GoesAhead first → GoesAhead second → GoesAhead (Choice bytes tokens terminal first second)
  choice_ahead terminal first second a b at o (is_first e x) = a at o x
  choice_ahead terminal first second a b at o (is_second e x) = b at o x

  mutual
    term_ahead_at : {used at : ℕ} {o : Outcome Parse} → Term bytes tokens used at o → Ahead at o
    term_ahead_at (is_variable h r) = omega arith
    term_ahead_at (is_constant h r a) = omega arith
    term_ahead_at (is_applied {at = at} {outcome = o} h r b args) = ahead_mapped _ at (at + 2) o (omega arith) (args_ahead_at args)
    term_ahead_at (is_node_too_many h r) = tt
    term_ahead_at (is_no_term h) = tt

    args_ahead_at : {functor number used at : ℕ} {o : Outcome Parses} → Args bytes tokens functor number used at o → Ahead at o
    args_ahead_at (stops_in_it x) = tt
    args_ahead_at (is_last x c) = let h = term_ahead_at x in omega arith
    args_ahead_at (is_followed {at = at} {end = end} {outcome = o} x c f args) = let h = term_ahead_at x in ahead_mapped _ at (end + 1) o (omega arith) (args_ahead_at args)
    args_ahead_at (is_one_too_many x c f) = tt
    args_ahead_at (is_followed_by_neither x c d) = tt

  pub term_ahead : GoesAhead (items.term bytes tokens)
  term_ahead at o x = term_ahead_at x

  token_then : {W : Type 0} (terminal : Terminal) (why : Why) (next : Unit {0} → Rule W) → ((u : Unit {0}) → GoesNotBack (next u)) → GoesAhead (Then (the bytes tokens terminal why) next)
  token_then terminal why next b = ahead_then (the bytes tokens terminal why) next (the_ahead terminal why) b

  token_back : {W : Type 0} (terminal : Terminal) (why : Why) (next : Unit {0} → Rule W) → ((u : Unit {0}) → GoesNotBack (next u)) → GoesNotBack (Then (the bytes tokens terminal why) next)
  token_back terminal why next b = not_back (Then (the bytes tokens terminal why) next) (token_then terminal why next b)

  term_then : {W : Type 0} (next : Parse → Rule W) → ((p : Parse) → GoesNotBack (next p)) → GoesAhead (Then (items.term bytes tokens) next)
  term_then next b = ahead_then (items.term bytes tokens) next term_ahead b

  last_term : {W : Type 0} (next : Parse → Rule W) → ((p : Parse) → GoesNotBack (next p)) → GoesNotBack (Then (items.term bytes tokens) next)
  last_term next b = not_back (Then (items.term bytes tokens) next) (term_then next b)

  pub equals_ahead : GoesAhead (items.equals bytes tokens)
  equals_ahead = then_ahead here _ here_not_back (λ first. term_then _ (λ left. token_back Equal (NoSign first) _ (λ u. last_term _ (λ right. gives_not_back _))))

  sign_then : {W : Type 0} (first : ℕ) (next : _ → Rule W) → ((b : _) → GoesNotBack (next b)) → GoesNotBack (Then (items.sign bytes tokens first) next)
  sign_then first next b = not_back (Then (items.sign bytes tokens first) next) (ahead_then (items.sign bytes tokens first) next (λ at o x. pick_ahead_at _ _ at o x) b)

  pub equation_ahead : GoesAhead (items.equation bytes tokens)
  equation_ahead = then_ahead here _ here_not_back (λ first. term_then _ (λ left. sign_then first _ (λ positive. last_term _ (λ right. gives_not_back _))))

  in_brackets_ahead : GoesAhead (items.equals_in_brackets bytes tokens)
  in_brackets_ahead = token_then Open NoToken _ (λ u. not_back _ (ahead_then (items.equals bytes tokens) _ equals_ahead (λ sides. token_back Close NoToken _ (λ w. gives_not_back sides))))

  denied_ahead : GoesAhead (items.denied bytes tokens)
  denied_ahead = choice_ahead Open _ _ in_brackets_ahead equals_ahead

  denial_ahead : GoesAhead (items.denial bytes tokens)
  denial_ahead = token_then Tilde NoToken _ (λ u. not_back _ (ahead_then (items.denied bytes tokens) _ denied_ahead (λ sides. gives_not_back _)))

  pub literal_ahead : GoesAhead (items.literal bytes tokens)
  literal_ahead = choice_ahead Tilde _ _ denial_ahead equation_ahead

  clause_ahead_at : {brackets at : ℕ} {o : Outcome Literal} → items.Clause bytes tokens brackets at o → Ahead at o
  clause_ahead_at (items.is_bare {at = at} {outcome = o} n x) = literal_ahead at o x
  clause_ahead_at (items.is_bracketed e f x c) = let h = clause_ahead_at x in omega arith
  clause_ahead_at (items.is_not_closed e f x c) = tt
  clause_ahead_at (items.stops_in_brackets e f x) = tt
  clause_ahead_at (items.is_too_deep e f) = tt

  rest_not_back : {bs : List Bracket} {at : ℕ} {o : Outcome (Unit {0})} → items.Rest bytes tokens bs at o → NotBehind at o
  rest_not_back (items.has_token {at = at} {outcome = o} e x) = behind_over at (at + 1) o (omega arith) (rest_not_back x)
  rest_not_back (items.has_opening {at = at} {outcome = o} e x) = behind_over at (at + 1) o (omega arith) (rest_not_back x)
  rest_not_back (items.has_closing {at = at} {outcome = o} e x) = behind_over at (at + 1) o (omega arith) (rest_not_back x)
  rest_not_back (items.ends_before e) = omega arith
  rest_not_back (items.stops_before e) = tt

  note_not_back_at : {at : ℕ} {o : Outcome (Unit {0})} → items.Note bytes tokens at o → NotBehind at o
  note_not_back_at (items.is_note n x) = rest_not_back x
  note_not_back_at (items.is_no_note e) = tt

  note_not_back : GoesNotBack (items.note bytes tokens)
  note_not_back at o x = note_not_back_at x

  note_then : {W : Type 0} (next : Unit {0} → Rule W) → ((u : Unit {0}) → GoesAhead (next u)) → GoesNotBack (Then (items.note bytes tokens) next)
  note_then next b = not_back (Then (items.note bytes tokens) next) (then_ahead (items.note bytes tokens) next note_not_back b)

  more_ahead : GoesAhead (items.more_notes bytes tokens)
  more_ahead = choice_ahead Comma _ _ (token_then Comma NoToken _ (λ u. note_then _ (λ w. the_ahead Close NoToken))) (the_ahead Close NoToken)

  notes_ahead : GoesAhead (items.notes bytes tokens)
  notes_ahead = choice_ahead Comma _ _ (token_then Comma NoToken _ (λ u. note_then _ (λ w. more_ahead))) (the_ahead Close NoEnd)

  name_ahead : GoesAhead (items.name bytes tokens)
  name_ahead at o x = pick_ahead_at _ _ at o x

  role_ahead : GoesAhead (items.role bytes tokens)
  role_ahead at o x = pick_ahead_at _ _ at o x

  quoted_ahead : GoesAhead (items.quoted bytes tokens)
  quoted_ahead at o x = pick_ahead_at _ _ at o x

  heading_ahead : GoesAhead (items.heading bytes tokens)
  heading_ahead = then_ahead here _ here_not_back (λ first. token_then Lower NoItem _ (λ a. token_back Open NoToken _ (λ b. not_back _ (ahead_then (items.name bytes tokens) _ name_ahead (λ name. token_back Comma NoToken _ (λ c. not_back _ (ahead_then (items.role bytes tokens) _ role_ahead (λ role. token_back Comma NoToken _ (λ d. gives_not_back _)))))))))

  cnf_ahead : GoesAhead (items.cnf bytes tokens)
  cnf_ahead = ahead_then (items.heading bytes tokens) _ heading_ahead (λ heading. not_back _ (ahead_then (items.clause bytes tokens) _ (λ at o x. clause_ahead_at x) (λ literal. not_back _ (ahead_then (items.notes bytes tokens) _ notes_ahead (λ u. token_back Dot NoToken _ (λ w. gives_not_back _))))))

  names_ahead_at : {at : ℕ} {o : Outcome (List ℕ)} → items.Names bytes tokens at o → Ahead at o
  names_ahead_at (items.stops_in_name x) = tt
  names_ahead_at (items.is_last_name {at = at} {end = end} {n = n} x e) = let h = name_ahead at (read n end) x in omega arith
  names_ahead_at (items.is_name {at = at} {end = end} {n = n} {outcome = o} x e rest) = let h = name_ahead at (read n end) x in ahead_mapped _ at (end + 1) o (omega arith) (names_ahead_at rest)
  names_ahead_at (items.stops_behind_name x e f) = tt

  list_ahead : GoesAhead (items.list bytes tokens)
  list_ahead = token_then OpenSquare NoSelection _ (λ u. not_back _ (choice_ahead CloseSquare _ _ (token_then CloseSquare NoToken _ (λ w. gives_not_back _)) (λ at o x. names_ahead_at x)))

  selected_ahead : GoesAhead (items.selected bytes tokens)
  selected_ahead = choice_ahead Comma _ _ (token_then Comma NoToken _ (λ u. not_back _ (ahead_then (items.list bytes tokens) _ list_ahead (λ ns. token_back Close NoToken _ (λ w. gives_not_back _))))) (token_then Close NoToken _ (λ u. gives_not_back _))

  include_ahead : GoesAhead (items.include bytes tokens)
  include_ahead = then_ahead here _ here_not_back (λ first. token_then Lower NoItem _ (λ a. token_back Open NoToken _ (λ b. not_back _ (ahead_then (items.quoted bytes tokens) _ quoted_ahead (λ file. not_back _ (ahead_then (items.selected bytes tokens) _ selected_ahead (λ names. token_back Dot NoToken _ (λ c. gives_not_back _))))))))

  pub item_ahead : {at : ℕ} {o : Outcome Entry} → items.Item bytes tokens at o → Ahead at o
  item_ahead (items.is_clause {at = at} {outcome = o} e x) = ahead_mapped _ at at o (omega arith) (cnf_ahead at o x)
  item_ahead (items.is_include {at = at} {outcome = o} e x) = ahead_mapped _ at at o (omega arith) (include_ahead at o x)
  item_ahead (items.is_no_item e) = tt
