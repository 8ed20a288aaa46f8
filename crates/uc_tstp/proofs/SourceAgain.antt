-- What the grammar reads from the pieces of a printed proof: the source of a line.
use Rattle.std.proofs.Common.{◌≡◌, ℕ, ◌+◌, ◌<◌, Bool, true, false, List, [], ◌∷◌, ◌++◌, length, map, refl, sym, ap, ap₂, ◌∙◌, arith, Some, None}
use Rattle.std.specs.Prelude.{codes}
use Rattle.std.specs.List.{flat_map}
use Rattle.std.proofs.lemmas.List.{map-append}
use Rattle.uc_term.specs.Table.{Table}
use Rattle.uc_term.specs.Variables.{variables}
use Rattle.uc_clause.specs.declared.token.Token.{Token}
use Rattle.uc_clause.specs.declared.terminal.Terminal.TheVariants as terminal
use Rattle.uc_clause.specs.declared.grammar.stop.Why.TheVariants.{NoToken}
use Rattle.uc_clause.specs.Rules.{read, read_or_stop, goes_on}
use Rattle.uc_clause.specs.Meaning.{variables_in}
use Rattle.uc_clause.specs.Printing.{variable_text}
use Rattle.uc_clause.proofs.Joined.{Piece}
use Rattle.uc_clause.proofs.Printed.{parse_at}
use Rattle.uc_clause.proofs.ReadBack.{known_split}
use Rattle.uc_check.specs.declared.proof.LineStep.{LineStep}
use Rattle.uc_check.specs.declared.proof.LineSource.{LineSource}
use Rattle.uc_check.specs.declared.proof.LineSource.TheVariants.{File, Chain, Reflexive, EncodeGoal, Refute}
use Rattle.uc_tstp.specs.declared.words.Inference.{Inference}
use Rattle.uc_tstp.specs.declared.words.Inference.TheVariants as inference
use Rattle.uc_tstp.specs.Parse as parse
use Rattle.uc_tstp.specs.Lines as lines
use Rattle.uc_tstp.specs.Lines.{rule_of, of_goal_of, of_goal_by, fits_file, fits_rule}
use Rattle.uc_tstp.specs.Meaning.{MeanSteps, no_steps, one_step, MeansSource}
use Rattle.uc_tstp.specs.Meaning as meaning
use Rattle.uc_tstp.specs.Reading.{first_unknown}
use Rattle.uc_tstp.specs.Printing.{step_text}
use Rattle.uc_tstp.specs.Printable.{source_variables, renumbered_step, renumbered_source}
use Rattle.uc_tstp.proofs.Bounded.{IsPrintableSource}
use Rattle.uc_tstp.proofs.PrintedPieces.{mark, comma, lower, further_pieces}
use Rattle.uc_tstp.proofs.LinePieces.{step_pieces, parents_pieces, chain_pieces, source_pieces, IsSourceBy}
use Rattle.uc_tstp.proofs.TokensAgain.{At, mark_here, comma_here, LowerHere, lower_here, reads_word, is_word_here, functor_here, clause_name_here, Pairs}
use Rattle.uc_tstp.proofs.TermsAgain.{Known, IsClosed, close_square_is_closed, comma_is_closed, term_here, parents_here, StepOn, steps_here}
use Rattle.uc_tstp.proofs.Unknowns.{known_one, unknown_more}

-- the body is one that a line of this source may have
abbrev pub Fits : LineSource → parse.Body → Type 0
Fits (File n) b = fits_file b ≡ true
Fits (Chain start steps parents) b = fits_rule inference.Chain b ≡ true
Fits (Reflexive parents) b = fits_rule inference.Encode b ≡ true
Fits (EncodeGoal parents) b = fits_rule inference.Encode b ≡ true
Fits (Refute parents) b = fits_rule inference.Refute b ≡ true

body_may_stand : (fits : Bool) (first at : ℕ) → fits ≡ true → lines.body_fits fits first at (read tt at)
body_may_stand true first at e = refl
body_may_stand false first at e = cc

module _ (table : Table) (names : List (List ℕ)) (text : List ℕ) (tokens : List Token) where
  -- the steps of a chain
  steps_names : (ss : List LineStep) (vs : List parse.Step) → Pairs text tokens (StepOn table names text tokens) ss vs → flat_map (λ (s : parse.Step). variables_in text tokens s.to) vs ≡ map variable_text (flat_map (λ (s : LineStep). variables s.to) ss)
  steps_names [] [] on = refl
  steps_names [] (v ∷ vs) on = elim on [ ]
  steps_names (s ∷ ss) [] on = elim on [ ]
  steps_names (s ∷ ss) (v ∷ vs) on = ap₂ (λ a b. a ++ b) on.0.names_are (steps_names ss vs on.1) ∙ sym (map-append variable_text (variables s.to) (flat_map (λ (s : LineStep). variables s.to) ss))

  steps_mean : (xs : List ℕ) (ss : List LineStep) (vs : List parse.Step) → Pairs text tokens (StepOn table names text tokens) ss vs → Known table names text tokens xs (flat_map (λ (s : LineStep). variables s.to) ss) → MeanSteps text tokens table names (map variable_text xs) vs (map (renumbered_step xs) ss)
  steps_mean xs [] [] on known = no_steps
  steps_mean xs [] (v ∷ vs) on known = elim on [ ]
  steps_mean xs (s ∷ ss) [] on known = elim on [ ]
  steps_mean xs (s ∷ ss) (v ∷ vs) on known =
      let both = known_split (map variable_text xs) _ (variables s.to) (flat_map (λ (s : LineStep). variables s.to) ss) known in
      one_step (record { by = on.0.by; way = on.0.way; path = on.0.path; to = on.0.means xs both.0 }) (steps_mean xs ss vs on.1 both.1)

  steps_known : (ss : List LineStep) (vs : List parse.Step) → Pairs text tokens (StepOn table names text tokens) ss vs → first_unknown text tokens names (map (λ (s : parse.Step). s.by) vs) ≡ None
  steps_known [] [] on = refl
  steps_known [] (v ∷ vs) on = elim on [ ]
  steps_known (s ∷ ss) [] on = elim on [ ]
  steps_known (s ∷ ss) (v ∷ vs) on = unknown_more text tokens names (v.by ∷ []) (map (λ (s : parse.Step). s.by) vs) (known_one text tokens names v.by s.by on.0.by) ∙ steps_known ss vs on.1

  -- a source
  pub record SourceHere (source : LineSource) (b : parse.Body) (first at : ℕ) (ps : List Piece) : Type 0 where
    pub s : parse.Source
    pub end : ℕ
    pub reads : lines.source text tokens b first at (read s end)
    pub names_are : meaning.source_variables text tokens s ≡ map variable_text (source_variables source)
    pub means : (xs : List ℕ) → Known table names text tokens xs (source_variables source) → MeansSource text tokens table names (map variable_text xs) s (renumbered_source xs source)
    pub known : first_unknown text tokens names (parse.mentions s) ≡ None
    pub behind : At text tokens end ps

  rule_here : (w : List ℕ) (r : Inference) (at : ℕ) (ps : List Piece) → rule_of w ≡ Some r → LowerHere text tokens w at ps → lines.rule_word text tokens at (read r (at + 1))
  rule_here w r at ps e l = lines.is_rule l.terminal (ap rule_of l.bytes ∙ e)

  -- an inference up to what stands in its first brackets
  record OpeningHere (r : Inference) (b : parse.Body) (first at : ℕ) (ps : List Piece) : Type 0 where
    pub inside : At text tokens (at + 1 + 1 + 1 + 1 + 1) ps
    pub reads : (s : parse.Source) (end : ℕ) → lines.source_of_rule text tokens r (at + 1 + 1 + 1 + 1 + 1) (read s end) → lines.source text tokens b first at (read s end)

  other_word : (at : ℕ) (ps : List Piece) → LowerHere text tokens (codes "inference") at ps → lines.word_at text tokens (codes "file") at ≡ false
  other_word at ps l = ap₂ (lines.is_word (codes "file")) l.terminal l.bytes

  opening_here : (w : List ℕ) (r : Inference) (b : parse.Body) (first at : ℕ) (ps : List Piece) → 0 < length w → rule_of w ≡ Some r → fits_rule r b ≡ true → At text tokens at (lower (codes "inference") (mark 40 (lower w (comma (mark 91 ps))))) → OpeningHere r b first at ps
  opening_here w r b first at ps some e fits here =
      let i = lower_here text tokens (codes "inference") (omega arith) here in
      let o = mark_here text tokens 40 terminal.Open refl i.behind in
      let l = lower_here text tokens w some o.behind in
      let c = comma_here text tokens l.behind in
      let q = mark_here text tokens 91 terminal.OpenSquare refl c.behind in
      record {
        inside = q.behind;
        reads = λ s end more. lines.is_inferred (other_word at _ i) (goes_on (reads_word text tokens (codes "inference") i) (goes_on o.reads (goes_on (rule_here w r (at + 1 + 1) _ e l) (goes_on (body_may_stand (fits_rule r b) first (at + 1 + 1 + 1) fits) (goes_on c.reads (goes_on q.reads more))))));
      }

  goal_read : (of_goal : Bool) (w : List ℕ) (at : ℕ) (ps : List Piece) → of_goal_of w ≡ Some of_goal → LowerHere text tokens w at ps → lines.of_goal text tokens at (read of_goal (at + 1))
  goal_read of_goal w at ps e l = sym (ap (λ o. read_or_stop NoToken o at) (ap₂ of_goal_by l.terminal l.bytes ∙ e))

  pub source_here : {at : ℕ} {ps : List Piece} (file : List ℕ) (source : LineSource) (b : parse.Body) (first : ℕ) → IsSourceBy table names source → IsPrintableSource table file source → Fits source b → At text tokens at (source_pieces table names file source ps) → SourceHere source b first at ps
  source_here {at} {ps} file (File n) b first by printable fits here =
      let w = lower_here text tokens (codes "file") (omega arith) here in
      let o = mark_here text tokens 40 terminal.Open refl w.behind in
      let f = functor_here text tokens file printable.0 o.behind in
      let c = comma_here text tokens f.behind in
      let l = clause_name_here text tokens n printable.1 c.behind in
      let close = mark_here text tokens 41 terminal.Close refl l.behind in
      record {
        s = parse.from_file (at + 1 + 1 + 1 + 1);
        end = at + 1 + 1 + 1 + 1 + 1 + 1;
        reads = lines.is_from_file (is_word_here text tokens (codes "file") w) (goes_on (reads_word text tokens (codes "file") w) (goes_on (body_may_stand (fits_file b) first (at + 1) fits) (goes_on o.reads (goes_on f.reads (goes_on c.reads (goes_on l.reads (goes_on close.reads refl)))))));
        names_are = refl;
        means = λ xs known. l.means;
        known = refl;
        behind = close.behind;
      }
  source_here {at} {ps} file (Chain start steps parents) b first by printable fits here =
      let opening = opening_here (codes "chain") inference.Chain b first at (chain_pieces table names start steps (mark 93 (comma (parents_pieces table names parents (mark 41 ps))))) (omega arith) refl fits here in
      let t = term_here table names text tokens start printable.0 (behind_start steps) opening.inside in
      let ss = steps_here table names text tokens steps by.0 t.behind in
      let p = parents_here table names text tokens parents by.1 ss.behind in
      record {
        s = parse.by_chain (parse_at (at + 1 + 1 + 1 + 1 + 1) start) ss.vs p.ks;
        end = p.end;
        reads = opening.reads _ _ (goes_on t.reads (goes_on ss.reads (goes_on p.reads refl)));
        names_are = ap₂ (λ a b. a ++ b) t.names_are (steps_names steps ss.vs ss.on) ∙ sym (map-append variable_text (variables start) (flat_map (λ (s : LineStep). variables s.to) steps));
        means = λ xs known.
            let both = known_split (map variable_text xs) _ (variables start) (flat_map (λ (s : LineStep). variables s.to) steps) known in
            (t.means xs both.0, steps_mean xs steps ss.vs ss.on both.1, p.named);
        known = unknown_more text tokens names (map (λ (s : parse.Step). s.by) ss.vs) p.ks (steps_known steps ss.vs ss.on) ∙ p.known;
        behind = p.behind;
      }
    where
      behind_start : (ss : List LineStep) → IsClosed table names text tokens (further_pieces (codes ", ") (step_text table names) comma (step_pieces table names) ss (mark 93 (comma (parents_pieces table names parents (mark 41 ps)))))
      behind_start [] = close_square_is_closed table names text tokens (comma (parents_pieces table names parents (mark 41 ps)))
      behind_start (s ∷ ss) = comma_is_closed table names text tokens (step_pieces table names s (further_pieces (codes ", ") (step_text table names) comma (step_pieces table names) ss (mark 93 (comma (parents_pieces table names parents (mark 41 ps))))))
  source_here {at} {ps} file (Reflexive parents) b first by printable fits here =
      let opening = opening_here (codes "encode") inference.Encode b first at (lower (codes "reflexive") (mark 93 (comma (parents_pieces table names parents (mark 41 ps))))) (omega arith) refl fits here in
      let w = lower_here text tokens (codes "reflexive") (omega arith) opening.inside in
      let q = mark_here text tokens 93 terminal.CloseSquare refl w.behind in
      let p = parents_here table names text tokens parents by q.behind in
      record {
        s = parse.by_reflexive p.ks;
        end = p.end;
        reads = opening.reads _ _ (goes_on (goal_read false (codes "reflexive") (at + 1 + 1 + 1 + 1 + 1) _ refl w) (goes_on q.reads (goes_on p.reads refl)));
        names_are = refl;
        means = λ xs known. p.named;
        known = p.known;
        behind = p.behind;
      }
  source_here {at} {ps} file (EncodeGoal parents) b first by printable fits here =
      let opening = opening_here (codes "encode") inference.Encode b first at (lower (codes "goal") (mark 93 (comma (parents_pieces table names parents (mark 41 ps))))) (omega arith) refl fits here in
      let w = lower_here text tokens (codes "goal") (omega arith) opening.inside in
      let q = mark_here text tokens 93 terminal.CloseSquare refl w.behind in
      let p = parents_here table names text tokens parents by q.behind in
      record {
        s = parse.by_goal p.ks;
        end = p.end;
        reads = opening.reads _ _ (goes_on (goal_read true (codes "goal") (at + 1 + 1 + 1 + 1 + 1) _ refl w) (goes_on q.reads (goes_on p.reads refl)));
        names_are = refl;
        means = λ xs known. p.named;
        known = p.known;
        behind = p.behind;
      }
  source_here {at} {ps} file (Refute parents) b first by printable fits here =
      let opening = opening_here (codes "refute") inference.Refute b first at (mark 93 (comma (parents_pieces table names parents (mark 41 ps)))) (omega arith) refl fits here in
      let q = mark_here text tokens 93 terminal.CloseSquare refl opening.inside in
      let p = parents_here table names text tokens parents by q.behind in
      record {
        s = parse.by_refute p.ks;
        end = p.end;
        reads = opening.reads _ _ (goes_on q.reads (goes_on p.reads refl));
        names_are = refl;
        means = λ xs known. p.named;
        known = p.known;
        behind = p.behind;
      }
