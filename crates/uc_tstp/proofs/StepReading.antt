-- How steps are read of their parts, and how a loop reads them.
use Rattle.std.proofs.Common.{◌≡◌, ◌≢◌, ℕ, ◌+◌, Bool, true, List, [], ◌∷◌, ◌++◌, append-nil, refl, sym, ap, ◌∙◌}
use Rattle.std.proofs.lemmas.Grind.{flat_map-append}
use Rattle.uc_term.specs.Table.{Table, Grows}
use Rattle.uc_term.specs.Tree.{Tree}
use Rattle.uc_clause.specs.declared.token.Token.{Token}
use Rattle.uc_clause.specs.declared.terminal.Terminal.TheVariants.{CloseSquare, Comma, Close}
use Rattle.uc_clause.specs.declared.grammar.stop.Stop.{Stop}
use Rattle.uc_clause.specs.Terminals.{terminal_at}
use Rattle.uc_clause.specs.Rules.{read, goes_on, stops_first, is_first, is_second, Stops}
use Rattle.uc_clause.specs.Terms.{Term}
use Rattle.uc_clause.specs.Reading.{ReadsTermAt}
use Rattle.uc_clause.specs.Meaning.{Variables, with_names, variables_in}
use Rattle.uc_clause.proofs.Sequences.{passes}
use Rattle.uc_clause.proofs.Means.{Extends, means_grows, with_names_extends, with_names_both}
use Rattle.uc_tstp.specs.declared.drafts.StepDraft.{StepDraft}
use Rattle.uc_tstp.specs.Parse as parse
use Rattle.uc_tstp.specs.Lines as lines
use Rattle.uc_tstp.specs.Lines.{token}
use Rattle.uc_tstp.specs.Drafts.{SaysStep, SaySteps, say_nothing, say_more, IsNext, NoNext}
use Rattle.uc_tstp.specs.Parts.{step_variables, ReadsStepAt, ReadsStepsBy}
use Rattle.uc_clause.specs.Interning.{with_term, InternsAt}
use Rattle.uc_tstp.specs.Interning.{with_steps}
use Rattle.uc_tstp.proofs.BodyReading.{made_by}
use Rattle.uc_tstp.proofs.Members.{Ahead, ahead_none, ahead_on, ahead_more, ahead_stops, ahead_behind}

module _ (bytes : List ℕ) (tokens : List Token) where
  module _ (from : ℕ) where
    pub head_stops : (err : Stop) → Stops (lines.step_head bytes tokens from) err → Stops (lines.step bytes tokens from) err
    head_stops err h = passes (lines.step_head bytes tokens from) (lines.step bytes tokens from) err (λ why k s. stops_first s) h

    module _ (by : ℕ) (left_to_right : Bool) (path : List ℕ) (at : ℕ) (h : lines.step_head bytes tokens from (read (record { by = by; left_to_right = left_to_right; path = path }) at)) where
      pub to_stops : (err : Stop) → Stops (Term bytes tokens 0 at) err → Stops (lines.step bytes tokens from) err
      to_stops err s = passes (Term bytes tokens 0 at) (lines.step bytes tokens from) err (λ why k s. goes_on h (stops_first s)) s

      module _ (seen more_seen : Variables) (table : Table) (to : Tree) (behind : ℕ) (t : ReadsTermAt bytes tokens at behind seen more_seen table to) where
        pub close_stops : (err : Stop) → Stops (token bytes tokens Close behind) err → Stops (lines.step bytes tokens from) err
        close_stops err s = passes (token bytes tokens Close behind) (lines.step bytes tokens from) err (λ why k s. goes_on h (goes_on t.reads (stops_first s))) s

        pub step_reads : (end : ℕ) (old : Table) → InternsAt (Term bytes tokens 0 at) (with_term bytes tokens) old table behind → token bytes tokens Close behind (read tt end) → ReadsStepAt bytes tokens from end seen more_seen old table (record { by = by; left_to_right = left_to_right; path = path; to = to })
        step_reads end old i e = record {
          step = record { by = by; left_to_right = left_to_right; path = path; to = t.parse };
          reads = goes_on h (goes_on t.reads (goes_on {v = tt} e refl));
          seen_is = t.seen_is;
          says = record { by = refl; way = refl; path = refl; to = t.means };
          table_is = made_by bytes tokens at behind old table t.parse t.reads i;
        }

  -- what steps say stays the same when the table or the names grow
  pub says_step_grows : (table new : Table) (seen more_seen : Variables) → Grows table new → Extends seen more_seen → (s : parse.Step) (draft : StepDraft) → SaysStep bytes tokens table seen s draft → SaysStep bytes tokens new more_seen s draft
  says_step_grows table new seen more_seen g e s draft says = record { by = says.by; way = says.way; path = says.path; to = means_grows bytes tokens table new seen more_seen g e says.to }

  pub say_steps_grow : (table new : Table) (seen more_seen : Variables) → Grows table new → Extends seen more_seen → {ss : List parse.Step} {drafts : List StepDraft} → SaySteps bytes tokens table seen ss drafts → SaySteps bytes tokens new more_seen ss drafts
  say_steps_grow table new seen more_seen g e say_nothing = say_nothing
  say_steps_grow table new seen more_seen g e (say_more {s = s} {draft = draft} says all) = say_more (says_step_grows table new seen more_seen g e s draft says) (say_steps_grow table new seen more_seen g e all)

  pub say_steps_snoc : (table : Table) (seen : Variables) {ss : List parse.Step} {drafts : List StepDraft} (s : parse.Step) (draft : StepDraft) → SaySteps bytes tokens table seen ss drafts → SaysStep bytes tokens table seen s draft → SaySteps bytes tokens table seen (ss ++ s ∷ []) (drafts ++ draft ∷ [])
  say_steps_snoc table seen s draft say_nothing says = say_more says say_nothing
  say_steps_snoc table seen s draft (say_more first all) says = say_more first (say_steps_snoc table seen s draft all says)

  snoc_variables : (ss : List parse.Step) (s : parse.Step) → step_variables bytes tokens (ss ++ s ∷ []) ≡ step_variables bytes tokens ss ++ variables_in bytes tokens s.to
  snoc_variables ss s = flat_map-append (λ (s : parse.Step). variables_in bytes tokens s.to) ss (s ∷ []) ∙ ap (λ xs. step_variables bytes tokens ss ++ xs) (append-nil (variables_in bytes tokens s.to))

  steps_snoc : (table : Table) (ss : List parse.Step) (s : parse.Step) → with_steps bytes tokens table (ss ++ s ∷ []) ≡ with_term bytes tokens (with_steps bytes tokens table ss) s.to
  steps_snoc table [] s = refl
  steps_snoc table (t ∷ ts) s = steps_snoc (with_term bytes tokens table t.to) ts s

  module _ (from : ℕ) (seen : Variables) (old : Table) where
    -- what the loop over steps keeps: the steps so far, with what is to come behind them
    pub record Kept (more : Bool) (at : ℕ) (now_seen : Variables) (table : Table) (drafts : List StepDraft) : Type 0 where
      pub steps : List parse.Step
      pub ahead : Ahead bytes tokens (lines.step bytes tokens) from steps more at
      pub seen_is : now_seen ≡ with_names seen (step_variables bytes tokens steps)
      pub says : SaySteps bytes tokens table now_seen steps drafts
      pub table_is : table ≡ with_steps bytes tokens old steps

    pub kept_none : Kept true from seen old []
    kept_none = record { steps = []; ahead = ahead_none bytes tokens (lines.step bytes tokens) from; seen_is = refl; says = say_nothing; table_is = refl }

    module _ (more : Bool) (at : ℕ) (now_seen : Variables) (table : Table) (drafts : List StepDraft) (k : Kept more at now_seen table drafts) where
      module _ (on : more ≡ true) where
        pub kept_stops : (err : Stop) → Stops (lines.step bytes tokens at) err → Stops (lines.members bytes tokens (lines.step bytes tokens) from) err
        kept_stops err h = ahead_stops bytes tokens (lines.step bytes tokens) from k.steps at err (ahead_on bytes tokens (lines.step bytes tokens) from k.steps more at on k.ahead) h

        module _ (end : ℕ) (last_seen : Variables) (new : Table) (draft : StepDraft) (r : ReadsStepAt bytes tokens at end now_seen last_seen table new draft) where
          pub kept_behind : (err : Stop) → NoNext bytes tokens end err → Stops (lines.members bytes tokens (lines.step bytes tokens) from) err
          kept_behind err h = ahead_behind bytes tokens (lines.step bytes tokens) from k.steps r.step at end err (ahead_on bytes tokens (lines.step bytes tokens) from k.steps more at on k.ahead) r.reads h

          pub kept_more : (again : Bool) → IsNext bytes tokens end again → Grows table new → Kept again (end + 1) last_seen new (drafts ++ draft ∷ [])
          kept_more again next g =
              let extends = with_names_extends now_seen (variables_in bytes tokens r.step.to) in
              record {
                steps = k.steps ++ r.step ∷ [];
                ahead = ahead_more bytes tokens (lines.step bytes tokens) from k.steps r.step at end again (ahead_on bytes tokens (lines.step bytes tokens) from k.steps more at on k.ahead) r.reads next;
                seen_is = r.seen_is ∙ ap (λ s. with_names s (variables_in bytes tokens r.step.to)) k.seen_is ∙ sym (with_names_both seen (step_variables bytes tokens k.steps) (variables_in bytes tokens r.step.to)) ∙ ap (with_names seen) (sym (snoc_variables k.steps r.step));
                says = say_steps_snoc new last_seen r.step draft (say_steps_grow table new now_seen last_seen g (extends.0, r.seen_is ∙ extends.1) k.says) r.says;
                table_is = r.table_is ∙ ap (λ t. with_term bytes tokens t r.step.to) k.table_is ∙ sym (steps_snoc old k.steps r.step);
              }

  module _ (from : ℕ) where
    pub steps_none : (seen : Variables) (table : Table) → terminal_at bytes tokens from ≡ CloseSquare → ReadsStepsBy bytes tokens (lines.steps bytes tokens) from (from + 1) seen seen table table []
    steps_none seen table e = record { steps = []; reads = is_first e (goes_on {v = tt} (e, refl) refl); seen_is = refl; says = say_nothing; table_is = refl }

    module _ (other : terminal_at bytes tokens from ≢ CloseSquare) where
      pub comma_stops : (err : Stop) → Stops (token bytes tokens Comma from) err → Stops (lines.steps bytes tokens from) err
      comma_stops err h = passes (token bytes tokens Comma from) (lines.steps bytes tokens from) err (λ why k s. is_second other (stops_first s)) h

      module _ (at : ℕ) (comma : token bytes tokens Comma from (read tt at)) where
        pub members_stop : (err : Stop) → Stops (lines.members bytes tokens (lines.step bytes tokens) at) err → Stops (lines.steps bytes tokens from) err
        members_stop err h = passes (lines.members bytes tokens (lines.step bytes tokens) at) (lines.steps bytes tokens from) err (λ why k s. is_second other (goes_on {v = tt} comma s)) h

        pub members_read : (end : ℕ) (seen more_seen : Variables) (old table : Table) (drafts : List StepDraft) → ReadsStepsBy bytes tokens (lines.members bytes tokens (lines.step bytes tokens)) at end seen more_seen old table drafts → ReadsStepsBy bytes tokens (lines.steps bytes tokens) from end seen more_seen old table drafts
        members_read end seen more_seen old table drafts r = record { steps = r.steps; reads = is_second other (goes_on {v = tt} comma r.reads); seen_is = r.seen_is; says = r.says; table_is = r.table_is }
