-- How sources are read of their parts.
use Rattle.std.proofs.Common.{◌≡◌, ℕ, ◌<◌, Bool, true, false, List, length, refl, sym, ap, ◌∙◌, subst}
use Rattle.std.specs.Prelude.{codes}
use Rattle.uc_term.specs.Table.{Table, Grows}
use Rattle.uc_term.specs.Tree.{Tree}
use Rattle.uc_clause.specs.declared.token.Token.{Token}
use Rattle.uc_clause.specs.declared.terminal.Terminal.{Terminal}
use Rattle.uc_clause.specs.declared.terminal.Terminal.TheVariants.{Lower, Quoted, Integer, End, CloseSquare}
use Rattle.uc_clause.specs.declared.grammar.stop.Why.TheVariants.{NoToken}
use Rattle.uc_clause.specs.declared.grammar.stop.Stop.{Stop}
use Rattle.uc_clause.specs.declared.clause.Name.{Name}
use Rattle.uc_clause.specs.Terminals.{terminal_at}
use Rattle.uc_clause.specs.Rules.{read, goes_on, stops_first, pick, Stops}
use Rattle.uc_clause.specs.Terms.{Term}
use Rattle.uc_clause.specs.Items as items
use Rattle.uc_clause.specs.Reading.{ReadsTermAt}
use Rattle.uc_clause.specs.Meaning.{Variables, with_names, variables_in, IsName}
use Rattle.uc_clause.proofs.Sequences.{passes}
use Rattle.uc_clause.proofs.Ends.{some_token}
use Rattle.uc_clause.proofs.Means.{with_names_both}
use Rattle.uc_tstp.specs.declared.drafts.StepDraft.{StepDraft}
use Rattle.uc_tstp.specs.declared.drafts.SourceDraft.{SourceDraft}
use Rattle.uc_tstp.specs.declared.drafts.SourceDraft.TheVariants.{File, Chain, Reflexive, EncodeGoal}
use Rattle.uc_tstp.specs.Parse.{Body, from_file, by_chain, by_goal, by_reflexive}
use Rattle.uc_tstp.specs.Lines as lines
use Rattle.uc_tstp.specs.Lines.{is_from_file, is_inferred}
use Rattle.uc_tstp.specs.Drafts.{ReadsSourceAt}
use Rattle.uc_tstp.specs.Parts.{step_variables, ReadsStepsBy, ReadsSourceBy}
use Rattle.uc_clause.specs.Interning.{with_term, InternsAt}
use Rattle.uc_tstp.specs.Interning.{with_steps}
use Rattle.uc_tstp.proofs.BodyReading.{still_means, made_by}

named : (t : Terminal) (at k end : ℕ) → pick NoToken (items.name_by t at) at (read k end) → k ≡ at
named Lower at k end e = cc
named Quoted at k end e = cc
named Integer at k end e = cc
named other at k end e = absurd cc

module _ (bytes : List ℕ) (tokens : List Token) where
  -- a name is a token
  pub name_within : (at k end : ℕ) → items.name bytes tokens at (read k end) → k < length tokens
  name_within at k end e =
      let same : k ≡ at = named (terminal_at bytes tokens at) at k end e in
      subst (λ n. n < length tokens) (sym same) (some_token bytes tokens at (λ f. let none : pick NoToken (items.name_by End at) at (read k end) = subst (λ t. pick NoToken (items.name_by t at) at (read k end)) f e in cc))

  module _ (from : ℕ) where
    pub start_stops : (err : Stop) → Stops (Term bytes tokens 0 from) err → Stops (lines.chain_source bytes tokens from) err
    start_stops err h = passes (Term bytes tokens 0 from) (lines.chain_source bytes tokens from) err (λ why k s. stops_first s) h

    module _ (at : ℕ) (seen more_seen : Variables) (table : Table) (start : Tree) (t : ReadsTermAt bytes tokens from at seen more_seen table start) where
      pub steps_stop : (err : Stop) → Stops (lines.steps bytes tokens at) err → Stops (lines.chain_source bytes tokens from) err
      steps_stop err h = passes (lines.steps bytes tokens at) (lines.chain_source bytes tokens from) err (λ why k s. goes_on t.reads (stops_first s)) h

      module _ (behind : ℕ) (last_seen : Variables) (new : Table) (steps : List StepDraft) (r : ReadsStepsBy bytes tokens (lines.steps bytes tokens) at behind more_seen last_seen table new steps) where
        pub rest_stops : (err : Stop) → Stops (lines.rest_of_inference bytes tokens behind) err → Stops (lines.chain_source bytes tokens from) err
        rest_stops err h = passes (lines.rest_of_inference bytes tokens behind) (lines.chain_source bytes tokens from) err (λ why k s. goes_on t.reads (goes_on r.reads (stops_first s))) h

        pub chain_reads : (end : ℕ) (parents : List ℕ) (old : Table) → InternsAt (Term bytes tokens 0 from) (with_term bytes tokens) old table at → Grows table new → lines.rest_of_inference bytes tokens behind (read parents end) → ReadsSourceBy bytes tokens (lines.chain_source bytes tokens) from end seen last_seen old new (Chain start steps parents)
        chain_reads end parents old i g p = record {
          source = by_chain t.parse r.steps parents;
          reads = goes_on t.reads (goes_on r.reads (goes_on p refl));
          seen_is = r.seen_is ∙ ap (λ s. with_names s (step_variables bytes tokens r.steps)) t.seen_is ∙ sym (with_names_both seen (variables_in bytes tokens t.parse) (step_variables bytes tokens r.steps));
          says = (still_means bytes tokens from at seen more_seen last_seen table new start t (step_variables bytes tokens r.steps) g r.seen_is, r.says, refl);
          table_is = r.table_is ∙ ap (λ u. with_steps bytes tokens u r.steps) (made_by bytes tokens from at old table t.parse t.reads i);
        }

    module _ (at behind end : ℕ) (parents : List ℕ) (closed : lines.token bytes tokens CloseSquare at (read tt behind)) (r : lines.rest_of_inference bytes tokens behind (read parents end)) where
      pub goal_reads : (goal : Bool) → goal ≡ true → lines.of_goal bytes tokens from (read goal at) → (seen : Variables) (table : Table) → ReadsSourceBy bytes tokens (lines.encode_source bytes tokens) from end seen seen table table (EncodeGoal parents)
      goal_reads true e g seen table = record { source = by_goal parents; reads = goes_on g (goes_on {v = tt} closed (goes_on r refl)); seen_is = refl; says = refl; table_is = refl }
      goal_reads false e g seen table = absurd cc

      pub reflexive_reads : (goal : Bool) → goal ≡ false → lines.of_goal bytes tokens from (read goal at) → (seen : Variables) (table : Table) → ReadsSourceBy bytes tokens (lines.encode_source bytes tokens) from end seen seen table table (Reflexive parents)
      reflexive_reads true e g seen table = absurd cc
      reflexive_reads false e g seen table = record { source = by_reflexive parents; reads = goes_on g (goes_on {v = tt} closed (goes_on r refl)); seen_is = refl; says = refl; table_is = refl }

    module _ (b : Body) (first : ℕ) where
      module _ (file : lines.word_at bytes tokens (codes "file") from ≡ true) where
        pub file_stops : (err : Stop) → Stops (lines.file_source bytes tokens b first from) err → Stops (lines.source bytes tokens b first from) err
        file_stops err h = passes (lines.file_source bytes tokens b first from) (lines.source bytes tokens b first from) err (λ why k s. is_from_file file s) h

        pub file_reads : (end k : ℕ) (seen : Variables) (table : Table) (name : Name) → lines.file_source bytes tokens b first from (read (from_file k) end) → IsName bytes tokens k name → ReadsSourceAt bytes tokens b first from end seen seen table table (File name)
        file_reads end k seen table name r n = record { source = from_file k; reads = is_from_file file r; seen_is = refl; says = n; table_is = refl }

      module _ (other : lines.word_at bytes tokens (codes "file") from ≡ false) where
        pub inference_stops : (err : Stop) → Stops (lines.inference_source bytes tokens b first from) err → Stops (lines.source bytes tokens b first from) err
        inference_stops err h = passes (lines.inference_source bytes tokens b first from) (lines.source bytes tokens b first from) err (λ why k s. is_inferred other s) h

        pub inference_reads : (end : ℕ) (seen more_seen : Variables) (old table : Table) (draft : SourceDraft) → ReadsSourceBy bytes tokens (lines.inference_source bytes tokens b first) from end seen more_seen old table draft → ReadsSourceAt bytes tokens b first from end seen more_seen old table draft
        inference_reads end seen more_seen old table draft r = record { source = r.source; reads = is_inferred other r.reads; seen_is = r.seen_is; says = r.says; table_is = r.table_is }
