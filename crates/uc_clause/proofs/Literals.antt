-- How literals are read of their parts.
use Rattle.std.proofs.Common.{◌≡◌, ℕ, ◌+◌, ◌<◌, List, refl, sym, ap, ◌∙◌, subst, false, Bool}
use Rattle.std.proofs.lemmas.List.{map-append}
use Rattle.std.specs.Prelude.{◌≢◌, Some, None}
use Rattle.uc_term.specs.Table.{Table, Grows}
use Rattle.uc_clause.specs.declared.token.Token.{Token}
use Rattle.uc_clause.specs.declared.terminal.Terminal.TheVariants.{Equal, Open, Close, Tilde}
use Rattle.uc_clause.specs.declared.grammar.term.Part.{Part}
use Rattle.uc_clause.specs.declared.grammar.literal.Pair.{Pair}
use Rattle.uc_clause.specs.declared.grammar.literal.Equation.{Equation}
use Rattle.uc_clause.specs.declared.grammar.stop.Why.TheVariants.{NoSign, NoToken, NoEnd}
use Rattle.uc_clause.specs.declared.grammar.stop.Stop.{Stop}
use Rattle.uc_clause.specs.Terminals.{terminal_at, place_at}
use Rattle.uc_clause.specs.Rules.{stop, Stops, read_or_stop, goes_on, stops_first, is_first}
use Rattle.uc_clause.specs.Parse.{leaves}
use Rattle.uc_clause.specs.Terms.{Term}
use Rattle.uc_clause.specs.Items.{equals, equals_in_brackets, denied, equation, literal, sign_of, Clause, is_bare, is_bracketed, is_not_closed, stops_in_brackets}
use Rattle.uc_clause.specs.Meaning.{Variables, with_names, variables_in, Means}
use Rattle.uc_clause.specs.Drafts.{IsPart}
use Rattle.uc_clause.specs.Interning.{InternsAt, with_term, with_sides, with_literal}
use Rattle.uc_clause.specs.Sides.{AddsSide, AreSides, ReadsPair, ReadsLiteral}
use Rattle.uc_clause.proofs.Sequences.{passes}
use Rattle.uc_clause.proofs.Means.{means_grows, with_names_extends}

module _ (bytes : List ℕ) (tokens : List Token) (from : ℕ) where
  pub equals_left_stops : (err : Stop) → Stops (Term bytes tokens 0 from) err → Stops (equals bytes tokens from) err
  equals_left_stops err h = passes (Term bytes tokens 0 from) (equals bytes tokens from) err (λ why k s. goes_on {v = from} {middle = from} refl (stops_first s)) h

  module _ (seen more_seen : Variables) (table : Table) (left : Part) (l : IsPart bytes tokens from seen more_seen table left) where
    pub equals_no_sign : terminal_at bytes tokens left.end ≢ Equal → equals bytes tokens from (stop (NoSign from) left.end)
    equals_no_sign n = goes_on {v = from} {middle = from} refl (goes_on l.reads (stops_first (n, refl, refl)))

    module _ (sign : terminal_at bytes tokens left.end ≡ Equal) where
      pub equals_right_stops : (err : Stop) → Stops (Term bytes tokens 0 (left.end + 1)) err → Stops (equals bytes tokens from) err
      equals_right_stops err h = passes (Term bytes tokens 0 (left.end + 1)) (equals bytes tokens from) err (λ why k s. goes_on {v = from} {middle = from} refl (goes_on l.reads (goes_on {v = tt} {middle = left.end + 1} (sign, refl) (stops_first s)))) h

    -- the two sides together
    pub both_sides : (at : ℕ) (last_seen : Variables) (new : Table) (pair : Pair) → Grows table new → (r : AddsSide bytes tokens left at more_seen last_seen new pair) → AreSides bytes tokens (record { left = l.parse; right = r.right }) seen last_seen new pair
    both_sides at last_seen new pair g r =
        let extends = with_names_extends more_seen (variables_in bytes tokens r.right) in
        record {
          places = r.places ∙ rw l.places (sym (map-append (place_at bytes tokens) (leaves l.parse) (leaves r.right)));
          seen_is = r.seen_is ∙ ap (λ s. with_names s (variables_in bytes tokens r.right)) l.seen_is;
          means_left = subst (λ t. Means bytes tokens new last_seen l.parse t) (sym r.is_left) (means_grows bytes tokens table new more_seen last_seen g (extends.0, r.seen_is ∙ extends.1) l.means);
          means_right = r.means;
        }

    pub equals_reads : terminal_at bytes tokens left.end ≡ Equal → (last_seen : Variables) (new : Table) (pair : Pair) → Grows table new → AddsSide bytes tokens left (left.end + 1) more_seen last_seen new pair → ReadsPair (equals bytes tokens) bytes tokens from seen last_seen new pair
    equals_reads sign last_seen new pair g r = record {
      sides = record { left = l.parse; right = r.right };
      reads = goes_on {v = from} {middle = from} refl (goes_on l.reads (goes_on {v = tt} {middle = left.end + 1} (sign, refl) (goes_on r.reads refl)));
      are_sides = both_sides (left.end + 1) last_seen new pair g r;
    }

    pub equation_no_sign : sign_of (terminal_at bytes tokens left.end) ≡ None → equation bytes tokens from (stop (NoSign from) left.end)
    equation_no_sign e = goes_on {v = from} {middle = from} refl (goes_on l.reads (stops_first (ap (λ v. read_or_stop (NoSign from) v left.end) (sym e))))

    module _ (positive : Bool) (sign : sign_of (terminal_at bytes tokens left.end) ≡ Some positive) where
      pub equation_right_stops : (err : Stop) → Stops (Term bytes tokens 0 (left.end + 1)) err → Stops (equation bytes tokens from) err
      equation_right_stops err h = passes (Term bytes tokens 0 (left.end + 1)) (equation bytes tokens from) err (λ why k s. goes_on {v = from} {middle = from} refl (goes_on l.reads (goes_on {v = positive} {middle = left.end + 1} (ap (λ v. read_or_stop (NoSign from) v left.end) (sym sign)) (stops_first s)))) h

      pub equation_reads : (last_seen : Variables) (new : Table) (pair : Pair) → Grows table new → AddsSide bytes tokens left (left.end + 1) more_seen last_seen new pair → ReadsLiteral (equation bytes tokens) bytes tokens from seen last_seen new (record { positive = positive; pair = pair })
      equation_reads last_seen new pair g r = record {
        literal = record { positive = positive; sides = record { left = l.parse; right = r.right } };
        reads = goes_on {v = from} {middle = from} refl (goes_on l.reads (goes_on {v = positive} {middle = left.end + 1} (ap (λ v. read_or_stop (NoSign from) v left.end) (sym sign)) (goes_on r.reads refl)));
        positive = refl;
        are_sides = both_sides (left.end + 1) last_seen new pair g r;
      }

  pub equation_left_stops : (err : Stop) → Stops (Term bytes tokens 0 from) err → Stops (equation bytes tokens from) err
  equation_left_stops err h = passes (Term bytes tokens 0 from) (equation bytes tokens from) err (λ why k s. goes_on {v = from} {middle = from} refl (stops_first s)) h

  -- behind `~`
  module _ (tilde : terminal_at bytes tokens from ≡ Tilde) where
    pub denial_stops : (err : Stop) → Stops (denied bytes tokens (from + 1)) err → Stops (literal bytes tokens from) err
    denial_stops err h = passes (denied bytes tokens (from + 1)) (literal bytes tokens from) err (λ why k s. is_first tilde (goes_on {v = tt} {middle = from + 1} (tilde, refl) (stops_first s))) h

    pub denial_reads : (seen last_seen : Variables) (new : Table) (pair : Pair) → ReadsPair (denied bytes tokens) bytes tokens (from + 1) seen last_seen new pair → ReadsLiteral (literal bytes tokens) bytes tokens from seen last_seen new (record { positive = false; pair = pair })
    denial_reads seen last_seen new pair r = record {
      literal = record { positive = false; sides = r.sides };
      reads = is_first tilde (goes_on {v = tt} {middle = from + 1} (tilde, refl) (goes_on r.reads refl));
      positive = refl;
      are_sides = r.are_sides;
    }

  -- behind an opening bracket
  module _ (bracket : terminal_at bytes tokens from ≡ Open) where
    pub bracketed_stops : (err : Stop) → Stops (equals bytes tokens (from + 1)) err → Stops (equals_in_brackets bytes tokens from) err
    bracketed_stops err h = passes (equals bytes tokens (from + 1)) (equals_in_brackets bytes tokens from) err (λ why k s. goes_on {v = tt} {middle = from + 1} (bracket, refl) (stops_first s)) h

    module _ (seen last_seen : Variables) (new : Table) (pair : Pair) (r : ReadsPair (equals bytes tokens) bytes tokens (from + 1) seen last_seen new pair) where
      pub bracketed_open : terminal_at bytes tokens pair.end ≢ Close → equals_in_brackets bytes tokens from (stop NoToken pair.end)
      bracketed_open n = goes_on {v = tt} {middle = from + 1} (bracket, refl) (goes_on r.reads (stops_first (n, refl, refl)))

      pub bracketed_closed : terminal_at bytes tokens pair.end ≡ Close → (p : Pair) → p ≡ record pair { end = pair.end + 1 } → ReadsPair (equals_in_brackets bytes tokens) bytes tokens from seen last_seen new p
      bracketed_closed e p same = subst (λ q. ReadsPair (equals_in_brackets bytes tokens) bytes tokens from seen last_seen new q) (sym same) (record {
        sides = r.sides;
        reads = goes_on {v = tt} {middle = from + 1} (bracket, refl) (goes_on r.reads (goes_on {v = tt} (e, refl) refl));
        are_sides = record { places = r.are_sides.places; seen_is = r.are_sides.seen_is; means_left = r.are_sides.means_left; means_right = r.are_sides.means_right };
      })

    module _ (brackets : ℕ) (few : brackets < 16) where
      pub clause_stops : (err : Stop) → Stops (Clause bytes tokens (brackets + 1) (from + 1)) err → Stops (Clause bytes tokens brackets from) err
      clause_stops err h = passes (Clause bytes tokens (brackets + 1) (from + 1)) (Clause bytes tokens brackets from) err (λ why k s. stops_in_brackets bracket few s) h

      module _ (seen last_seen : Variables) (new : Table) (positive : Bool) (pair : Pair) (r : ReadsLiteral (Clause bytes tokens (brackets + 1)) bytes tokens (from + 1) seen last_seen new (record { positive = positive; pair = pair })) where
        pub clause_open : terminal_at bytes tokens pair.end ≢ Close → Clause bytes tokens brackets from (stop NoEnd pair.end)
        clause_open n = is_not_closed bracket few r.reads n

        pub clause_closed : terminal_at bytes tokens pair.end ≡ Close → (p : Pair) → p ≡ record pair { end = pair.end + 1 } → ReadsLiteral (Clause bytes tokens brackets) bytes tokens from seen last_seen new (record { positive = positive; pair = p })
        clause_closed e p same = subst (λ q. ReadsLiteral (Clause bytes tokens brackets) bytes tokens from seen last_seen new (record { positive = positive; pair = q })) (sym same) (record {
          literal = r.literal;
          reads = is_bracketed bracket few r.reads e;
          positive = r.positive;
          are_sides = record { places = r.are_sides.places; seen_is = r.are_sides.seen_is; means_left = r.are_sides.means_left; means_right = r.are_sides.means_right };
        })

  pub literal_is_clause : (brackets : ℕ) (seen last_seen : Variables) (new : Table) (e : Equation) → terminal_at bytes tokens from ≢ Open → ReadsLiteral (literal bytes tokens) bytes tokens from seen last_seen new e → ReadsLiteral (Clause bytes tokens brackets) bytes tokens from seen last_seen new e
  literal_is_clause brackets seen last_seen new e n r = record { literal = r.literal; reads = is_bare n r.reads; positive = r.positive; are_sides = r.are_sides }

  pub literal_stops_clause : (brackets : ℕ) (err : Stop) → terminal_at bytes tokens from ≢ Open → Stops (literal bytes tokens from) err → Stops (Clause bytes tokens brackets from) err
  literal_stops_clause brackets err n h = passes (literal bytes tokens from) (Clause bytes tokens brackets from) err (λ why k s. is_bare n s) h

-- what is read of the parts makes the new table
module _ (bytes : List ℕ) (tokens : List Token) (from : ℕ) (old : Table) where
  module _ (middle : Table) (k : ℕ) (l : InternsAt (Term bytes tokens 0 from) (with_term bytes tokens) old middle k) (new : Table) (end : ℕ) (r : InternsAt (Term bytes tokens 0 (k + 1)) (with_term bytes tokens) middle new end) where
    pub equals_interns : terminal_at bytes tokens k ≡ Equal → InternsAt (equals bytes tokens from) (with_sides bytes tokens) old new end
    equals_interns sign = record {
      parse = record { left = l.parse; right = r.parse };
      reads = goes_on {v = from} {middle = from} refl (goes_on l.reads (goes_on {v = tt} {middle = k + 1} (sign, refl) (goes_on r.reads refl)));
      new_is = r.new_is ∙ ap (λ t. with_term bytes tokens t r.parse) l.new_is;
    }

    pub equation_interns : (positive : Bool) → sign_of (terminal_at bytes tokens k) ≡ Some positive → InternsAt (equation bytes tokens from) (with_literal bytes tokens) old new end
    equation_interns positive sign = record {
      parse = record { positive = positive; sides = record { left = l.parse; right = r.parse } };
      reads = goes_on {v = from} {middle = from} refl (goes_on l.reads (goes_on {v = positive} {middle = k + 1} (ap (λ v. read_or_stop (NoSign from) v k) (sym sign)) (goes_on r.reads refl)));
      new_is = r.new_is ∙ ap (λ t. with_term bytes tokens t r.parse) l.new_is;
    }

  module _ (new : Table) (end : ℕ) where
    pub denial_interns : terminal_at bytes tokens from ≡ Tilde → InternsAt (denied bytes tokens (from + 1)) (with_sides bytes tokens) old new end → InternsAt (literal bytes tokens from) (with_literal bytes tokens) old new end
    denial_interns tilde r = record {
      parse = record { positive = false; sides = r.parse };
      reads = is_first tilde (goes_on {v = tt} {middle = from + 1} (tilde, refl) (goes_on r.reads refl));
      new_is = r.new_is;
    }

    pub bracketed_interns : terminal_at bytes tokens from ≡ Open → InternsAt (equals bytes tokens (from + 1)) (with_sides bytes tokens) old new end → terminal_at bytes tokens end ≡ Close → (p : ℕ) → p ≡ end + 1 → InternsAt (equals_in_brackets bytes tokens from) (with_sides bytes tokens) old new p
    bracketed_interns bracket r e p same = subst (λ k. InternsAt (equals_in_brackets bytes tokens from) (with_sides bytes tokens) old new k) (sym same) (record {
      parse = r.parse;
      reads = goes_on {v = tt} {middle = from + 1} (bracket, refl) (goes_on r.reads (goes_on {v = tt} (e, refl) refl));
      new_is = r.new_is;
    })

    pub clause_interns : (brackets : ℕ) → terminal_at bytes tokens from ≢ Open → InternsAt (literal bytes tokens from) (with_literal bytes tokens) old new end → InternsAt (Clause bytes tokens brackets from) (with_literal bytes tokens) old new end
    clause_interns brackets n r = record { parse = r.parse; reads = is_bare n r.reads; new_is = r.new_is }

    pub closed_interns : (brackets : ℕ) → terminal_at bytes tokens from ≡ Open → brackets < 16 → InternsAt (Clause bytes tokens (brackets + 1) (from + 1)) (with_literal bytes tokens) old new end → terminal_at bytes tokens end ≡ Close → (p : ℕ) → p ≡ end + 1 → InternsAt (Clause bytes tokens brackets from) (with_literal bytes tokens) old new p
    closed_interns brackets bracket few r e p same = subst (λ k. InternsAt (Clause bytes tokens brackets from) (with_literal bytes tokens) old new k) (sym same) (record {
      parse = r.parse;
      reads = is_bracketed bracket few r.reads e;
      new_is = r.new_is;
    })
