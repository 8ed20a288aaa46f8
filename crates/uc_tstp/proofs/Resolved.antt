-- How steps and lines are resolved.
use Rattle.std.proofs.Common.{◌≡◌, ℕ, suc, ◌+◌, ◌<◌, List, [], ◌∷◌, ◌++◌, length, drop, drop-cons, get_or, refl, ◌∙◌, subst, arith}
use Rattle.std.specs.Prelude.{None}
use Rattle.uc_clause.specs.declared.token.Token.{Token}
use Rattle.uc_check.specs.declared.proof.Line.{Line}
use Rattle.uc_check.specs.declared.proof.LineStep.{LineStep}
use Rattle.uc_check.specs.declared.proof.LineSource.{LineSource}
use Rattle.uc_check.specs.declared.proof.LineSource.TheVariants as numbered
use Rattle.uc_tstp.specs.declared.drafts.StepDraft.{StepDraft}
use Rattle.uc_tstp.specs.declared.drafts.SourceDraft.{SourceDraft}
use Rattle.uc_tstp.specs.declared.drafts.SourceDraft.TheVariants as source
use Rattle.uc_tstp.specs.declared.drafts.LineDraft.{LineDraft}
use Rattle.uc_tstp.specs.Meaning.{IsNamed, AreNamed, none_named, one_named}
use Rattle.uc_tstp.specs.Reading.{first_unknown}
use Rattle.uc_tstp.specs.declared.resolving.Unresolved.{Unresolved}
use Rattle.uc_tstp.specs.Resolving.{Lacks, ResolvesStep, ResolveSteps, no_step_left, step_resolved, ResolvesSource, ResolvesLine, ResolveLines, no_line_left, line_resolved, steps_mention, source_mentions, lines_mention}
use Rattle.uc_tstp.proofs.Unknowns.{Ahead, ahead_more, ahead_all, known_one, known_all, unknown_more, lacks_first, lacks_more}

none_left : {A : Type 0} (xs : List A) → length xs ≡ 0 → xs ≡ []
none_left [] e = refl
none_left (x ∷ xs) e = absurd (omega arith)

module _ (bytes : List ℕ) (tokens : List Token) (names : List (List ℕ)) where
  pub next_parent : (all numbers rest : List ℕ) (k n : ℕ) → Ahead bytes tokens names (AreNamed bytes tokens names) (λ ks. ks) all numbers (k ∷ rest) → IsNamed bytes tokens names k n → Ahead bytes tokens names (AreNamed bytes tokens names) (λ ks. ks) all (numbers ++ n ∷ []) rest
  next_parent all numbers rest k n ahead h = ahead_more bytes tokens names (AreNamed bytes tokens names) (λ ks. ks) all numbers k rest n ahead (λ more m. one_named h m) (λ e l. lacks_more bytes tokens names (k ∷ []) rest e (known_one bytes tokens names k n h) l)

  pub next_parent_at : (all numbers : List ℕ) (i n : ℕ) → i < length all → Ahead bytes tokens names (AreNamed bytes tokens names) (λ ks. ks) all numbers (drop i all) → IsNamed bytes tokens names (get_or all i 0) n → Ahead bytes tokens names (AreNamed bytes tokens names) (λ ks. ks) all (numbers ++ n ∷ []) (drop (i + 1) all)
  next_parent_at all numbers i n lt ahead h =
      let e : suc i ≡ i + 1 = omega arith in
      subst (λ j. Ahead bytes tokens names (AreNamed bytes tokens names) (λ ks. ks) all (numbers ++ n ∷ []) (drop j all)) e (next_parent all numbers (drop (suc i) all) (get_or all i 0) n (rw (drop-cons all i 0 lt) at ahead) h)

  pub lacks_in_line : (all : List LineDraft) (lines : List Line) (rest : List LineDraft) (d : LineDraft) (e : Unresolved) → Ahead bytes tokens names (ResolveLines bytes tokens names) lines_mention all lines (d ∷ rest) → Lacks bytes tokens names (source_mentions d.source) e → Lacks bytes tokens names (lines_mention all) e
  lacks_in_line all lines rest d e ahead h = ahead.lacks e (lacks_first bytes tokens names (source_mentions d.source) (lines_mention rest) e h)

  pub next_step : (all : List StepDraft) (steps : List LineStep) (rest : List StepDraft) (d : StepDraft) (s : LineStep) → Ahead bytes tokens names (ResolveSteps bytes tokens names) steps_mention all steps (d ∷ rest) → ResolvesStep bytes tokens names d s → Ahead bytes tokens names (ResolveSteps bytes tokens names) steps_mention all (steps ++ s ∷ []) rest
  next_step all steps rest d s ahead h = ahead_more bytes tokens names (ResolveSteps bytes tokens names) steps_mention all steps d rest s ahead (λ more m. step_resolved h m) (λ e l. lacks_more bytes tokens names (d.by ∷ []) (steps_mention rest) e (known_one bytes tokens names d.by s.by h.by) l)

  pub known_steps : {ds : List StepDraft} {steps : List LineStep} → ResolveSteps bytes tokens names ds steps → first_unknown bytes tokens names (steps_mention ds) ≡ None
  known_steps no_step_left = refl
  known_steps (step_resolved {draft = d} {drafts = ds} {step = s} h all) = unknown_more bytes tokens names (d.by ∷ []) (steps_mention ds) (known_one bytes tokens names d.by s.by h.by) ∙ known_steps all

  pub lacks_parents : (ds : List StepDraft) (steps : List LineStep) (parents : List ℕ) (e : Unresolved) → ResolveSteps bytes tokens names ds steps → Lacks bytes tokens names parents e → Lacks bytes tokens names (steps_mention ds ++ parents) e
  lacks_parents ds steps parents e h l = lacks_more bytes tokens names (steps_mention ds) parents e (known_steps h) l

  pub known_source : (d : SourceDraft) (s : LineSource) → ResolvesSource bytes tokens names d s → first_unknown bytes tokens names (source_mentions d) ≡ None
  known_source (source.File name) (numbered.File same) h = refl
  known_source (source.Chain start ds ks) (numbered.Chain same steps parents) h = unknown_more bytes tokens names (steps_mention ds) ks (known_steps h.1) ∙ known_all bytes tokens names h.2
  known_source (source.Reflexive ks) (numbered.Reflexive parents) h = known_all bytes tokens names h
  known_source (source.EncodeGoal ks) (numbered.EncodeGoal parents) h = known_all bytes tokens names h
  known_source (source.Refute ks) (numbered.Refute parents) h = known_all bytes tokens names h
  known_source d s h = elim h [ ]

  pub next_line : (all : List LineDraft) (lines : List Line) (rest : List LineDraft) (d : LineDraft) (l : Line) → Ahead bytes tokens names (ResolveLines bytes tokens names) lines_mention all lines (d ∷ rest) → ResolvesLine bytes tokens names d l → Ahead bytes tokens names (ResolveLines bytes tokens names) lines_mention all (lines ++ l ∷ []) rest
  next_line all lines rest d l ahead h = ahead_more bytes tokens names (ResolveLines bytes tokens names) lines_mention all lines d rest l ahead (λ more m. line_resolved h m) (λ e m. lacks_more bytes tokens names (source_mentions d.source) (lines_mention rest) e (known_source d.source l.source h.source) m)

  pub known_lines : {ds : List LineDraft} {lines : List Line} → ResolveLines bytes tokens names ds lines → first_unknown bytes tokens names (lines_mention ds) ≡ None
  known_lines no_line_left = refl
  known_lines (line_resolved {draft = d} {drafts = ds} {line = l} h all) = unknown_more bytes tokens names (source_mentions d.source) (lines_mention ds) (known_source d.source l.source h.source) ∙ known_lines all

  pub all_parents : (all numbers rest : List ℕ) → rest ≡ [] → Ahead bytes tokens names (AreNamed bytes tokens names) (λ ks. ks) all numbers rest → AreNamed bytes tokens names all numbers
  all_parents all numbers rest e ahead = ahead_all bytes tokens names (AreNamed bytes tokens names) (λ ks. ks) all numbers (rw e at ahead) none_named

  pub all_steps : (all : List StepDraft) (steps : List LineStep) (rest : List StepDraft) → length rest ≡ 0 → Ahead bytes tokens names (ResolveSteps bytes tokens names) steps_mention all steps rest → ResolveSteps bytes tokens names all steps
  all_steps all steps rest e ahead = ahead_all bytes tokens names (ResolveSteps bytes tokens names) steps_mention all steps (rw (none_left rest e) at ahead) no_step_left

  pub all_lines : (all : List LineDraft) (lines : List Line) (rest : List LineDraft) → length rest ≡ 0 → Ahead bytes tokens names (ResolveLines bytes tokens names) lines_mention all lines rest → ResolveLines bytes tokens names all lines
  all_lines all lines rest e ahead = ahead_all bytes tokens names (ResolveLines bytes tokens names) lines_mention all lines (rw (none_left rest e) at ahead) no_line_left
