-- What is read ends in the text.
use Rattle.std.proofs.Common.{◌≡◌, ℕ, ◌≤◌, List, length, arith}
use Rattle.uc_clause.specs.declared.token.Token.{Token}
use Rattle.uc_clause.specs.declared.terminal.Terminal.TheVariants.{Close, Dot}
use Rattle.uc_clause.specs.Rules.{Outcome, read, stop, mapped, goes_on, is_first, is_second}
use Rattle.uc_clause.specs.Parse.{Parse, Parses, Sides, Literal, Formula, Entry}
use Rattle.uc_clause.specs.declared.grammar.item.Inclusion.{Inclusion}
use Rattle.uc_clause.specs.Terms.{Term, Args, is_variable, is_constant, is_applied, is_node_too_many, is_no_term, stops_in_it, is_last, is_followed, is_one_too_many, is_followed_by_neither}
use Rattle.uc_clause.specs.Items as items
use Rattle.uc_clause.proofs.Ends.{some_head, some_other}

abbrev InText : {V : Type 0} → List Token → Outcome V → Type 0
InText tokens (read v end) = end ≤ length tokens
InText tokens (stop why k) = Unit {0}

mapped_in : {V W : Type 0} (tokens : List Token) (f : V → W) (o : Outcome V) → InText tokens o → InText tokens (mapped f o)
mapped_in tokens f (read v end) h = h
mapped_in tokens f (stop why k) h = tt

module _ (bytes : List ℕ) (tokens : List Token) where
  mutual
    term_in : {used at : ℕ} {o : Outcome Parse} → Term bytes tokens used at o → InText tokens o
    term_in (is_variable {at = at} h r) = omega (arith, some_head bytes tokens at (λ e. cc))
    term_in (is_constant {at = at} h r a) = omega (arith, some_head bytes tokens at (λ e. cc))
    term_in (is_applied {outcome = o} h r b args) = mapped_in tokens _ o (args_in args)
    term_in (is_node_too_many h r) = tt
    term_in (is_no_term h) = tt

    args_in : {functor number used at : ℕ} {o : Outcome Parses} → Args bytes tokens functor number used at o → InText tokens o
    args_in (stops_in_it x) = tt
    args_in (is_last {end = end} x c) = omega (arith, some_other bytes tokens end Close c (λ e. cc))
    args_in (is_followed {outcome = o} x c f args) = mapped_in tokens _ o (args_in args)
    args_in (is_one_too_many x c f) = tt
    args_in (is_followed_by_neither x c d) = tt

  term_ends : (used at end : ℕ) (p : Parse) → Term bytes tokens used at (read p end) → end ≤ length tokens
  term_ends used at end p x = term_in x

  equals_ends : (at end : ℕ) (s : Sides) → items.equals bytes tokens at (read s end) → end ≤ length tokens
  equals_ends at end s (goes_on h (goes_on x (goes_on e (goes_on {v = p} {middle = m} y g)))) = let same : end ≡ m = cc in omega (arith, term_ends _ _ m p y)

  brackets_ends : (at end : ℕ) (s : Sides) → items.equals_in_brackets bytes tokens at (read s end) → end ≤ length tokens
  brackets_ends at end s (goes_on h (goes_on {middle = k} x (goes_on {middle = m} c g))) = let same : end ≡ m = cc in omega (arith, c.1, some_other bytes tokens k Close c.0 (λ e. cc))

  equation_ends : (at end : ℕ) (l : Literal) → items.equation bytes tokens at (read l end) → end ≤ length tokens
  equation_ends at end l (goes_on h (goes_on x (goes_on e (goes_on {v = p} {middle = m} y g)))) = let same : end ≡ m = cc in omega (arith, term_ends _ _ m p y)

  denied_ends : (at end : ℕ) (s : Sides) → items.denied bytes tokens at (read s end) → end ≤ length tokens
  denied_ends at end s (is_first e x) = brackets_ends at end s x
  denied_ends at end s (is_second n x) = equals_ends at end s x

  denial_ends : (at end : ℕ) (l : Literal) → items.denial bytes tokens at (read l end) → end ≤ length tokens
  denial_ends at end l (goes_on {middle = k} h (goes_on {v = s} {middle = m} x g)) = let same : end ≡ m = cc in omega (arith, denied_ends k m s x)

  pub literal_ends : (at end : ℕ) (l : Literal) → items.literal bytes tokens at (read l end) → end ≤ length tokens
  literal_ends at end l (is_first e x) = denial_ends at end l x
  literal_ends at end l (is_second n x) = equation_ends at end l x

  cnf_ends : (at end : ℕ) (f : Formula) → items.cnf bytes tokens at (read f end) → end ≤ length tokens
  cnf_ends at end f (goes_on h (goes_on c (goes_on {middle = k} n (goes_on {middle = m} d g)))) = let same : end ≡ m = cc in omega (arith, d.1, some_other bytes tokens k Dot d.0 (λ e. cc))

  include_ends : (at end : ℕ) (i : Inclusion) → items.include bytes tokens at (read i end) → end ≤ length tokens
  include_ends at end i (goes_on h (goes_on a (goes_on b (goes_on f (goes_on {middle = k} n (goes_on {middle = m} d g)))))) = let same : end ≡ m = cc in omega (arith, d.1, some_other bytes tokens k Dot d.0 (λ e. cc))

  cnf_in : (at : ℕ) (o : Outcome Formula) → items.cnf bytes tokens at o → InText tokens o
  cnf_in at (read f end) x = cnf_ends at end f x
  cnf_in at (stop why k) x = tt

  include_in : (at : ℕ) (o : Outcome Inclusion) → items.include bytes tokens at o → InText tokens o
  include_in at (read i end) x = include_ends at end i x
  include_in at (stop why k) x = tt

  item_in_text : {at : ℕ} {o : Outcome Entry} → items.Item bytes tokens at o → InText tokens o
  item_in_text (items.is_clause {at = at} {outcome = o} e x) = mapped_in tokens _ o (cnf_in at o x)
  item_in_text (items.is_include {at = at} {outcome = o} e x) = mapped_in tokens _ o (include_in at o x)
  item_in_text (items.is_no_item e) = tt

  pub item_ends : (at end : ℕ) (e : Entry) → items.Item bytes tokens at (read e end) → end ≤ length tokens
  item_ends at end e x = item_in_text x
