-- Terms and equations that are whole texts.
use Rattle.std.proofs.Common.{◌≡◌, ℕ, ◌+◌, List, [], refl, subst}
use Rattle.std.specs.Prelude.{◌≢◌}
use Rattle.uc_term.specs.Tree.{Tree}
use Rattle.uc_term.specs.Table.{Table, IsDistinct}
use Rattle.uc_clause.specs.declared.token.Token.{Token}
use Rattle.uc_clause.specs.declared.terminal.Terminal.TheVariants.{End, Equal}
use Rattle.uc_clause.specs.declared.grammar.term.Part.{Part}
use Rattle.uc_clause.specs.declared.grammar.literal.Pair.{Pair}
use Rattle.uc_clause.specs.declared.grammar.stop.Why.TheVariants.{NoToken, NoEnd, NoSign}
use Rattle.uc_clause.specs.declared.grammar.stop.Stop.{Stop}
use Rattle.uc_clause.specs.Terminals.{terminal_at}
use Rattle.uc_clause.specs.Rules.{stop, Stops, goes_on, stops_first}
use Rattle.uc_clause.specs.Parse.{Parse, Sides}
use Rattle.uc_clause.specs.Terms.{Term}
use Rattle.uc_clause.specs.Items.{term, equals, term_alone, equals_alone}
use Rattle.uc_clause.specs.Meaning.{Variables, with_names, variables_in, Means}
use Rattle.uc_clause.specs.Drafts.{IsPart}
use Rattle.uc_clause.specs.Interning.{InternsAt, with_term, with_sides}
use Rattle.uc_clause.specs.Sides.{IsTermAlone, IsEquationAlone, ReadsPair}
use Rattle.uc_clause.specs.Reading.{SaysTerm, SaysSides}
use Rattle.uc_clause.proofs.Sequences.{passes}
use Rattle.uc_clause.proofs.ReadOnce.{Once, both_once, here_once, gives_once, the_once, term_once}
use Rattle.uc_clause.proofs.MeansOnce.{means_once, with_names_distinct, none_distinct}

module _ (bytes : List ℕ) (tokens : List Token) where
  rule_once : Once (term bytes tokens)
  rule_once at o p x y = term_once bytes tokens x y

  pub term_alone_once : Once (term_alone bytes tokens)
  term_alone_once = both_once (term bytes tokens) _ rule_once (λ p. both_once _ _ (the_once bytes tokens End NoToken) (λ u. gives_once p))

  pub equals_once : Once (equals bytes tokens)
  equals_once = both_once _ _ here_once (λ first. both_once (term bytes tokens) _ rule_once (λ left. both_once _ _ (the_once bytes tokens Equal (NoSign first)) (λ u. both_once (term bytes tokens) _ rule_once (λ right. gives_once _))))

  pub equals_alone_once : Once (equals_alone bytes tokens)
  equals_alone_once = both_once (equals bytes tokens) _ equals_once (λ sides. both_once _ _ (the_once bytes tokens End NoEnd) (λ u. gives_once sides))

  pub says_term_once : (table : Table) → IsDistinct table → (p : Parse) (t u : Tree) → SaysTerm table bytes tokens p t → SaysTerm table bytes tokens p u → t ≡ u
  says_term_once table d p t u m n = means_once bytes tokens table _ d (with_names_distinct [] (variables_in bytes tokens p) none_distinct) m n

  pub says_sides_once : (table : Table) → IsDistinct table → (sides : Sides) (t u : Tree × Tree) → SaysSides table bytes tokens sides t → SaysSides table bytes tokens sides u → t ≡ u
  says_sides_once table d sides t u m n =
      let distinct = with_names_distinct (with_names [] (variables_in bytes tokens sides.left)) (variables_in bytes tokens sides.right) (with_names_distinct [] (variables_in bytes tokens sides.left) none_distinct) in
      let left : t.0 ≡ u.0 = means_once bytes tokens table _ d distinct m.means_left n.means_left in
      let right : t.1 ≡ u.1 = means_once bytes tokens table _ d distinct m.means_right n.means_right in
      let both : (t.0, t.1) ≡ (u.0, u.1) = rw (left, right) refl in
      both

  pub alone_term_stops : (err : Stop) → Stops (Term bytes tokens 0 0) err → Stops (term_alone bytes tokens 0) err
  alone_term_stops err h = passes (Term bytes tokens 0 0) (term_alone bytes tokens 0) err (λ why k s. stops_first s) h

  module _ (seen : Variables) (table : Table) (part : Part) (l : IsPart bytes tokens 0 [] seen table part) where
    pub alone_term_more : terminal_at bytes tokens part.end ≢ End → term_alone bytes tokens 0 (stop NoToken part.end)
    alone_term_more n = goes_on l.reads (stops_first (n, refl, refl))

    pub alone_term : terminal_at bytes tokens part.end ≡ End → IsTermAlone bytes tokens table part.term
    alone_term e = record {
      parse = l.parse;
      end = _;
      reads = goes_on l.reads (goes_on {v = tt} (e, refl) refl);
      means = subst (λ s. Means bytes tokens table s l.parse part.term) l.seen_is l.means;
    }

  -- what is read makes the new table
  pub alone_term_interns : (old new : Table) (k : ℕ) → InternsAt (Term bytes tokens 0 0) (with_term bytes tokens) old new k → terminal_at bytes tokens k ≡ End → InternsAt (term_alone bytes tokens 0) (with_term bytes tokens) old new (k + 1)
  alone_term_interns old new k r e = record {
    parse = r.parse;
    reads = goes_on r.reads (goes_on {v = tt} (e, refl) refl);
    new_is = r.new_is;
  }

  pub alone_equals_stops : (err : Stop) → Stops (equals bytes tokens 0) err → Stops (equals_alone bytes tokens 0) err
  alone_equals_stops err h = passes (equals bytes tokens 0) (equals_alone bytes tokens 0) err (λ why k s. stops_first s) h

  module _ (seen : Variables) (table : Table) (pair : Pair) (l : ReadsPair (equals bytes tokens) bytes tokens 0 [] seen table pair) where
    pub alone_equals_more : terminal_at bytes tokens pair.end ≢ End → equals_alone bytes tokens 0 (stop NoEnd pair.end)
    alone_equals_more n = goes_on l.reads (stops_first (n, refl, refl))

    pub alone_equals : terminal_at bytes tokens pair.end ≡ End → IsEquationAlone bytes tokens table (pair.left, pair.right)
    alone_equals e = record {
      sides = l.sides;
      end = _;
      reads = goes_on l.reads (goes_on {v = tt} (e, refl) refl);
      means = record {
        means_left = subst (λ s. Means bytes tokens table s l.sides.left pair.left) l.are_sides.seen_is l.are_sides.means_left;
        means_right = subst (λ s. Means bytes tokens table s l.sides.right pair.right) l.are_sides.seen_is l.are_sides.means_right;
      };
    }

  -- what is read makes the new table
  pub alone_interns : (old new : Table) (k : ℕ) → InternsAt (equals bytes tokens 0) (with_sides bytes tokens) old new k → terminal_at bytes tokens k ≡ End → InternsAt (equals_alone bytes tokens 0) (with_sides bytes tokens) old new (k + 1)
  alone_interns old new k r e = record {
    parse = r.parse;
    reads = goes_on r.reads (goes_on {v = tt} (e, refl) refl);
    new_is = r.new_is;
  }
