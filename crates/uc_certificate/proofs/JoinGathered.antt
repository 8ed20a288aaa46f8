-- How join lines are gathered.
use Rattle.std.proofs.Common.{◌≡◌, ℕ, ◌+◌, List, [], ◌∷◌, ◌++◌, append-nil, refl, sym, ap, ◌∙◌, subst}
use Rattle.std.specs.Prelude.{◌≢◌}
use Rattle.uc_term.specs.Table.{Table, Grows}
use Rattle.uc_clause.specs.declared.token.Token.{Token}
use Rattle.uc_clause.specs.declared.terminal.Terminal.TheVariants.{End}
use Rattle.uc_clause.specs.declared.grammar.stop.Stop.{Stop}
use Rattle.uc_clause.specs.Terminals.{terminal_at}
use Rattle.uc_clause.specs.Rules.{Outcome, read, stop, mapped, Stops}
use Rattle.uc_clause.proofs.Lists.{after, after_none, after_one}
use Rattle.uc_clause.proofs.Sequences.{passes}
use Rattle.uc_clause.proofs.Tables.{grows_twice}
use Rattle.uc_certificate.specs.declared.certificate.Join.{Join}
use Rattle.uc_certificate.specs.JoinParse as parse
use Rattle.uc_certificate.specs.JoinLines.{join, joins, JoinsAt, is_no_join, has_join, stops_in_join}
use Rattle.uc_certificate.specs.JoinMeaning.{MeansJoin, MeanJoins, none_mean}
use Rattle.uc_certificate.specs.Interning.{with_join, with_joins}
use Rattle.uc_certificate.specs.Reads.{ReadsAs}
use Rattle.uc_certificate.proofs.JoinLoops.{mean_snoc, with_snoc}

module _ (bytes : List ℕ) (tokens : List Token) (start : Table) where
  -- some join lines are read, and with what the rest comes to all comes to
  pub record Gathered (table : Table) (list : List Join) (at : ℕ) : Type 0 where
    pub parses : List parse.Join
    pub comes_to : (o : Outcome (List parse.Join)) → JoinsAt bytes tokens at o → JoinsAt bytes tokens 0 (after parses o)
    pub mean : (later : Table) → Grows table later → MeanJoins bytes tokens later parses list
    pub interns : table ≡ with_joins bytes tokens start parses

  pub gathered_none : Gathered start [] 0
  gathered_none = record { parses = []; comes_to = λ o rest. rw (after_none o) rest; mean = λ later g. none_mean; interns = refl }

  module _ (table : Table) (list : List Join) (at : ℕ) (g : Gathered table list at) where
    pub gathered_all : terminal_at bytes tokens at ≡ End → ReadsAs (joins bytes tokens) (MeanJoins bytes tokens) (with_joins bytes tokens) 0 at start table list
    gathered_all e = record {
      parse = g.parses;
      reads = subst (λ js. JoinsAt bytes tokens 0 (read js at)) (append-nil g.parses) (g.comes_to (read [] at) (is_no_join e));
      means = g.mean;
      interns = g.interns;
    }

    module _ (more : terminal_at bytes tokens at ≢ End) where
      pub join_stops : (e : Stop) → Stops (join bytes tokens at) e → Stops (joins bytes tokens 0) e
      join_stops e h = passes (join bytes tokens at) (joins bytes tokens 0) e (λ why k s. g.comes_to (stop why k) (stops_in_join more s)) h

      pub gathered_more : (new : Table) (j : Join) (end : ℕ) → Grows table new → ReadsAs (join bytes tokens) (MeansJoin bytes tokens) (with_join bytes tokens) at end table new j → Gathered new (list ++ j ∷ []) end
      gathered_more new j end grows r = record {
        parses = g.parses ++ r.parse ∷ [];
        comes_to = λ o rest. rw (after_one g.parses r.parse o) (g.comes_to (mapped (λ js. r.parse ∷ js) o) (has_join more r.reads rest));
        mean = λ later h. mean_snoc r.parse j (g.mean later (grows_twice table new later grows h)) (r.means later h);
        interns = r.interns ∙ ap (λ t. with_join bytes tokens t r.parse) g.interns ∙ sym (with_snoc (with_join bytes tokens) start g.parses r.parse);
      }
