-- How a body is read of its parts.
use Rattle.std.proofs.Common.{◌≡◌, ℕ, ◌+◌, Bool, true, false, List, refl, sym, ap, ◌∙◌}
use Rattle.uc_term.specs.Table.{Table, Grows}
use Rattle.uc_term.specs.Tree.{Tree}
use Rattle.uc_clause.specs.declared.token.Token.{Token}
use Rattle.uc_clause.specs.declared.grammar.stop.Stop.{Stop}
use Rattle.uc_clause.specs.Rules.{Outcome, read, stop, goes_on, stops_first, Stops}
use Rattle.uc_clause.specs.Parse.{Parse}
use Rattle.uc_clause.specs.Interning.{with_term, InternsAt}
use Rattle.uc_clause.proofs.ReadOnce.{term_once}
use Rattle.uc_clause.specs.Terms.{Term}
use Rattle.uc_clause.specs.Items.{equation, sign}
use Rattle.uc_clause.specs.Reading.{ReadsTermAt}
use Rattle.uc_clause.specs.Meaning.{Variables, with_names, variables_in, Means}
use Rattle.uc_clause.proofs.Sequences.{passes}
use Rattle.uc_clause.proofs.Means.{means_grows, with_names_extends, with_names_both}
use Rattle.uc_tstp.specs.declared.drafts.BodyDraft.TheVariants.{Sides, Falsum}
use Rattle.uc_tstp.specs.Parse.{says, falsum}
use Rattle.uc_tstp.specs.Lines.{body, falsum_at, is_false, is_equation}
use Rattle.uc_tstp.specs.Drafts.{ReadsBodyAt}

same_parse : {p q : Parse} {k l : ℕ} → Path (Outcome Parse) (read p k) (read q l) → p ≡ q
same_parse e = cc

-- what reading a term makes of the table, by its parse
pub made_by : (bytes : List ℕ) (tokens : List Token) (from end : ℕ) (old new : Table) (p : Parse) → Term bytes tokens 0 from (read p end) → InternsAt (Term bytes tokens 0 from) (with_term bytes tokens) old new end → new ≡ with_term bytes tokens old p
made_by bytes tokens from end old new p r i = i.new_is ∙ ap (with_term bytes tokens old) (same_parse (term_once bytes tokens i.reads r))

module _ (bytes : List ℕ) (tokens : List Token) where
  -- what is read as a term keeps what it says, and the names go on
  module _ (from end : ℕ) (seen more_seen last_seen : Variables) (table new : Table) (left : Tree) (l : ReadsTermAt bytes tokens from end seen more_seen table left) where
    pub still_means : (xs : List (List ℕ)) → Grows table new → last_seen ≡ with_names more_seen xs → Means bytes tokens new last_seen l.parse left
    still_means xs g e = let extends = with_names_extends more_seen xs in means_grows bytes tokens table new more_seen last_seen g (extends.0, e ∙ extends.1) l.means

  module _ (from : ℕ) where
    pub false_reads : (seen : Variables) (table : Table) → falsum_at bytes tokens from ≡ true → ReadsBodyAt bytes tokens from (from + 1) seen seen table table Falsum
    false_reads seen table e = record { body = falsum; reads = is_false e; seen_is = refl; says = tt; table_is = refl }

    module _ (other : falsum_at bytes tokens from ≡ false) where
      pub equation_stops : (err : Stop) → Stops (equation bytes tokens from) err → Stops (body bytes tokens from) err
      equation_stops err h = passes (equation bytes tokens from) (body bytes tokens from) err (λ why k s. is_equation {outcome = stop why k} other s) h

      pub left_stops : (err : Stop) → Stops (Term bytes tokens 0 from) err → Stops (body bytes tokens from) err
      left_stops err h = equation_stops err (passes (Term bytes tokens 0 from) (equation bytes tokens from) err (λ why k s. goes_on {v = from} {middle = from} refl (stops_first s)) h)

      module _ (at : ℕ) (seen more_seen : Variables) (table : Table) (left : Tree) (l : ReadsTermAt bytes tokens from at seen more_seen table left) where
        pub sign_stops : (err : Stop) → Stops (sign bytes tokens from at) err → Stops (body bytes tokens from) err
        sign_stops err h = equation_stops err (passes (sign bytes tokens from at) (equation bytes tokens from) err (λ why k s. goes_on {v = from} {middle = from} refl (goes_on l.reads (stops_first s))) h)

        module _ (behind : ℕ) (positive : Bool) (signed : sign bytes tokens from at (read positive behind)) where
          pub right_stops : (err : Stop) → Stops (Term bytes tokens 0 behind) err → Stops (body bytes tokens from) err
          right_stops err h = equation_stops err (passes (Term bytes tokens 0 behind) (equation bytes tokens from) err (λ why k s. goes_on {v = from} {middle = from} refl (goes_on l.reads (goes_on signed (stops_first s)))) h)

          pub sides_read : (end : ℕ) (last_seen : Variables) (new : Table) (right : Tree) → Grows table new → (r : ReadsTermAt bytes tokens behind end more_seen last_seen new right) → (old : Table) → InternsAt (Term bytes tokens 0 from) (with_term bytes tokens) old table at → InternsAt (Term bytes tokens 0 behind) (with_term bytes tokens) table new end → ReadsBodyAt bytes tokens from end seen last_seen old new (Sides positive left right)
          sides_read end last_seen new right g r old i j = record {
            body = says (record { positive = positive; sides = record { left = l.parse; right = r.parse } });
            reads = is_equation {outcome = read (record { positive = positive; sides = record { left = l.parse; right = r.parse } }) end} other (goes_on {v = from} {middle = from} refl (goes_on l.reads (goes_on signed (goes_on r.reads refl))));
            seen_is = r.seen_is ∙ ap (λ s. with_names s (variables_in bytes tokens r.parse)) l.seen_is ∙ sym (with_names_both seen (variables_in bytes tokens l.parse) (variables_in bytes tokens r.parse));
            says = (refl, still_means from at seen more_seen last_seen table new left l (variables_in bytes tokens r.parse) g r.seen_is, r.means);
            table_is = made_by bytes tokens behind end table new r.parse r.reads j ∙ ap (λ t. with_term bytes tokens t r.parse) (made_by bytes tokens from at old table l.parse l.reads i);
          }
