-- The lines of a history.
use Rattle.std.proofs.Common.{ℕ, ◌+◌, ◌≡◌, ◌<◌, ◌≤◌, List, [], ◌∷◌, ◌++◌, length, get_or, drop, Result, Ok, Err, sym, ap, ◌∙◌, append_assoc}
use Rattle.std.specs.Result.{IfOk, OnOk}
use Rattle.std.proofs.lemmas.List.{drop_more, drop_all, append-nil}
use Rattle.uc_machine.specs.declared.event.Event.{Event}
use Rattle.uc_answer.specs.Lines.{joined}
use Rattle.uc_answer.specs.TraceLines.{event_line, event_lines, share_text, share_lines}
use Rattle.uc_answer.proofs.DirectedLines.{joined_one}

pub told_so : {T E : Type 0} (P : Type 0) (r : Result T E) → IfOk r (λ _. P) → OnOk r P
told_so P (Ok v) h = h
told_so P (Err e) h = tt

-- what is written behind what was
pub behind : (new mid old a b : List ℕ) → new ≡ mid ++ b → mid ≡ old ++ a → new ≡ old ++ (a ++ b)
behind new mid old a b e f = e ∙ ap (λ t. t ++ b) f ∙ append_assoc old a b

module _ (history : List Event) where
  -- behind these lines those of the events that are left are the lines of all
  abbrev pub BegunTrace : ℕ → List (List ℕ) → Type 0
  BegunTrace number lines = joined lines ++ event_lines (number + 1) (drop number history) ≡ event_lines 1 history

  pub one_more_event : (number : ℕ) (lines : List (List ℕ)) (d e : Event) (line : List ℕ) → number < length history → e ≡ get_or history number d → line ≡ event_line (number + 1) e → BegunTrace number lines → BegunTrace (number + 1) (lines ++ line ∷ [])
  one_more_event number lines d e line h at is begun =
      let rest = event_lines (number + 1 + 1) (drop (number + 1) history) in
      let here : drop number history ≡ e ∷ drop (number + 1) history = drop_more history number d h ∙ ap (λ x. x ∷ drop (number + 1) history) (sym at) in
      ap (λ t. t ++ rest) (joined_one lines line) ∙ append_assoc (joined lines) line rest ∙ ap (λ t. joined lines ++ (t ++ rest)) is ∙ ap (λ es. joined lines ++ event_lines (number + 1) es) (sym here) ∙ begun

  pub all_events_told : (number : ℕ) (lines : List (List ℕ)) → length history ≤ number → BegunTrace number lines → joined lines ≡ event_lines 1 history
  all_events_told number lines h begun = sym (append-nil (joined lines)) ∙ ap (λ es. joined lines ++ event_lines (number + 1) es) (sym (drop_all number history h)) ∙ begun

module _ (shares : List ℕ) where
  -- behind these lines those of the shares that are left are the lines of all
  abbrev pub BegunShares : ℕ → List (List ℕ) → Type 0
  BegunShares worker lines = joined lines ++ share_lines worker (drop worker shares) ≡ share_lines 0 shares

  pub one_more_share : (worker : ℕ) (lines : List (List ℕ)) (d commits : ℕ) (line : List ℕ) → worker < length shares → commits ≡ get_or shares worker d → line ≡ share_text worker commits → BegunShares worker lines → BegunShares (worker + 1) (lines ++ line ∷ [])
  one_more_share worker lines d commits line h at is begun =
      let rest = share_lines (worker + 1) (drop (worker + 1) shares) in
      let here : drop worker shares ≡ commits ∷ drop (worker + 1) shares = drop_more shares worker d h ∙ ap (λ x. x ∷ drop (worker + 1) shares) (sym at) in
      ap (λ t. t ++ rest) (joined_one lines line) ∙ append_assoc (joined lines) line rest ∙ ap (λ t. joined lines ++ (t ++ rest)) is ∙ ap (λ es. joined lines ++ share_lines worker es) (sym here) ∙ begun

  pub all_shares_told : (worker : ℕ) (lines : List (List ℕ)) → length shares ≤ worker → BegunShares worker lines → joined lines ≡ share_lines 0 shares
  all_shares_told worker lines h begun = sym (append-nil (joined lines)) ∙ ap (λ es. joined lines ++ share_lines worker es) (sym (drop_all worker shares h)) ∙ begun
