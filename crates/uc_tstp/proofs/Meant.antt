-- What lines say once they are resolved.
use Rattle.std.proofs.Common.{◌≡◌, ℕ, List, ◌∷◌, ◌++◌, length, refl, sym, ap, ap₂, ◌∙◌, subst, arith}
use Rattle.std.specs.Prelude.{map}
use Rattle.uc_term.specs.Table.{Table}
use Rattle.uc_clause.specs.declared.token.Token.{Token}
use Rattle.uc_clause.specs.Terminals.{bytes_at}
use Rattle.uc_clause.specs.Meaning.{Variables, Means, IsName}
use Rattle.uc_check.specs.declared.proof.Line.{Line}
use Rattle.uc_check.specs.declared.proof.LineStep.{LineStep}
use Rattle.uc_check.specs.declared.proof.LineSource.{LineSource}
use Rattle.uc_check.specs.declared.proof.LineSource.TheVariants as numbered
use Rattle.uc_tstp.specs.declared.drafts.StepDraft.{StepDraft}
use Rattle.uc_tstp.specs.declared.drafts.SourceDraft.{SourceDraft}
use Rattle.uc_tstp.specs.declared.drafts.SourceDraft.TheVariants as source
use Rattle.uc_tstp.specs.declared.drafts.BodyDraft.{BodyDraft}
use Rattle.uc_tstp.specs.declared.drafts.BodyDraft.TheVariants as body
use Rattle.uc_tstp.specs.declared.drafts.LineDraft.{LineDraft}
use Rattle.uc_tstp.specs.Parse as parse
use Rattle.uc_tstp.specs.Parse.{Body, says, falsum, Source, from_file, by_chain, by_reflexive, by_goal, by_refute, mentions, all_mentions}
use Rattle.uc_tstp.specs.Meaning.{IsNamed, AreNamed, MeanSteps, no_steps, one_step, MeansSource, MeansBody, MeanLines, no_lines, one_line, variables_of}
use Rattle.uc_tstp.specs.Drafts.{SaySteps, say_nothing, say_more, SaysSource, SaysBody, SayLines, say_no_line, say_line}
use Rattle.uc_tstp.specs.Resolving.{ResolveSteps, no_step_left, step_resolved, ResolvesSource, ResolvesBody, ResolveLines, no_line_left, line_resolved, steps_mention, source_mentions, lines_mention}

pub as_many_lines : {bytes : List ℕ} {tokens : List Token} {names : List (List ℕ)} {ds : List LineDraft} {ls : List Line} → ResolveLines bytes tokens names ds ls → length ls ≡ length ds
as_many_lines no_line_left = refl
as_many_lines (line_resolved h all) = omega (arith, as_many_lines all)

module _ (bytes : List ℕ) (tokens : List Token) (table : Table) where
  -- a line's draft mentions what its parse mentions
  same_steps : {seen : Variables} {ss : List parse.Step} {ds : List StepDraft} → SaySteps bytes tokens table seen ss ds → steps_mention ds ≡ map (λ (s : parse.Step). s.by) ss
  same_steps say_nothing = refl
  same_steps (say_more s all) = ap₂ (λ k ks. k ∷ ks) s.by (same_steps all)

  same_source : (seen : Variables) (s : Source) (d : SourceDraft) → SaysSource bytes tokens table seen s d → source_mentions d ≡ mentions s
  same_source seen (from_file k) (source.File name) h = refl
  same_source seen (by_chain p ss ks) (source.Chain start steps parents) h = ap₂ (λ a b. a ++ b) (same_steps h.1) h.2
  same_source seen (by_reflexive ks) (source.Reflexive parents) h = h
  same_source seen (by_goal ks) (source.EncodeGoal parents) h = h
  same_source seen (by_refute ks) (source.Refute parents) h = h
  same_source seen s d h = elim h [ ]

  pub same_mentions : {ls : List parse.Line} {ds : List LineDraft} → SayLines bytes tokens table ls ds → lines_mention ds ≡ all_mentions ls
  same_mentions say_no_line = refl
  same_mentions (say_line {l = l} {draft = d} s all) = ap₂ (λ a b. a ++ b) (same_source (variables_of bytes tokens l) l.source d.source s.source) (same_mentions all)

  module _ (names : List (List ℕ)) where
    mean_steps : {seen : Variables} {ss : List parse.Step} {ds : List StepDraft} {ns : List LineStep} → SaySteps bytes tokens table seen ss ds → ResolveSteps bytes tokens names ds ns → MeanSteps bytes tokens table names seen ss ns
    mean_steps say_nothing no_step_left = no_steps
    mean_steps {seen = seen} (say_more {s = p} s all) (step_resolved {step = n} r rest) = one_step (record { by = subst (λ k. IsNamed bytes tokens names k n.by) s.by r.by; way = r.way ∙ s.way; path = r.path ∙ s.path; to = subst (Means bytes tokens table seen p.to) (sym r.to) s.to }) (mean_steps all rest)

    mean_source : (seen : Variables) (s : Source) (d : SourceDraft) (n : LineSource) → SaysSource bytes tokens table seen s d → ResolvesSource bytes tokens names d n → MeansSource bytes tokens table names seen s n
    mean_source seen (from_file k) (source.File name) (numbered.File same) h r = subst (IsName bytes tokens k) (sym r) h
    mean_source seen (by_chain p ss ks) (source.Chain start steps parents) (numbered.Chain same ns numbers) h r = (subst (Means bytes tokens table seen p) (sym r.0) h.0, mean_steps h.1 r.1, subst (λ k. AreNamed bytes tokens names k numbers) h.2 r.2)
    mean_source seen (by_reflexive ks) (source.Reflexive parents) (numbered.Reflexive numbers) h r = subst (λ k. AreNamed bytes tokens names k numbers) h r
    mean_source seen (by_goal ks) (source.EncodeGoal parents) (numbered.EncodeGoal numbers) h r = subst (λ k. AreNamed bytes tokens names k numbers) h r
    mean_source seen (by_refute ks) (source.Refute parents) (numbered.Refute numbers) h r = subst (λ k. AreNamed bytes tokens names k numbers) h r
    mean_source seen (from_file k) (source.File name) n h r = elim r [ ]
    mean_source seen (by_chain p ss ks) (source.Chain start steps parents) n h r = elim r [ ]
    mean_source seen (by_reflexive ks) (source.Reflexive parents) n h r = elim r [ ]
    mean_source seen (by_goal ks) (source.EncodeGoal parents) n h r = elim r [ ]
    mean_source seen (by_refute ks) (source.Refute parents) n h r = elim r [ ]
    mean_source seen s d n h r = elim h [ ]

    mean_body : (seen : Variables) (b : Body) (d : BodyDraft) (line : Line) → SaysBody bytes tokens table seen b d → ResolvesBody d (record { positive = line.positive; left = line.left; right = line.right }) → MeansBody bytes tokens table names seen b line
    mean_body seen (says l) (body.Sides positive left right) line h r = (r.0 ∙ h.0, subst (Means bytes tokens table seen l.sides.left) (sym r.1) h.1, subst (Means bytes tokens table seen l.sides.right) (sym r.2) h.2)
    mean_body seen falsum body.Falsum line h r = r
    mean_body seen (says l) body.Falsum line h r = elim h [ ]
    mean_body seen falsum (body.Sides positive left right) line h r = elim h [ ]

    pub mean_lines : {ls : List parse.Line} {ds : List LineDraft} {ns : List Line} → SayLines bytes tokens table ls ds → ResolveLines bytes tokens names ds ns → MeanLines bytes tokens table names ls ns
    mean_lines say_no_line no_line_left = no_lines
    mean_lines (say_line {l = l} {draft = d} s all) (line_resolved {line = n} r rest) = one_line (record { name = r.name ∙ ap (bytes_at bytes tokens) s.name; body = mean_body (variables_of bytes tokens l) l.body d.body n s.body r.body; source = mean_source (variables_of bytes tokens l) l.source d.source n.source s.source r.source }) (mean_lines all rest)
