-- What a text reads as in a table it reads as in each longer one.
use Rattle.std.proofs.Common.{ℕ, List, Result}
use Rattle.uc_term.specs.Table.{Table, Grows}
use Rattle.uc_clause.specs.declared.token.Token.{Token}
use Rattle.uc_clause.specs.Meaning.{Variables, Means}
use Rattle.uc_clause.specs.Parse.{Parse}
use Rattle.uc_term.specs.Tree.{Tree}
use Rattle.uc_clause.proofs.Means.{extends_not, means_grows}
use Rattle.uc_check.specs.declared.proof.Proof.{Proof}
use Rattle.uc_check.specs.declared.proof.Line.{Line}
use Rattle.uc_check.specs.declared.proof.LineStep.{LineStep}
use Rattle.uc_check.specs.declared.proof.LineSource.{LineSource}
use Rattle.uc_check.specs.declared.proof.LineSource.TheVariants.{File, Chain, Reflexive, EncodeGoal, Refute}
use Rattle.uc_tstp.specs.declared.fault.ProofFault.{ProofFault}
use Rattle.uc_tstp.specs.declared.framing.Frame.{Frame}
use Rattle.uc_tstp.specs.declared.scope.Scope.{Scope}
use Rattle.uc_tstp.specs.declared.scope.Scope.TheVariants as scope
use Rattle.uc_tstp.specs.Parse as parse
use Rattle.uc_tstp.specs.Parse.{Body, says, falsum, Source, from_file, by_chain, by_reflexive, by_goal, by_refute}
use Rattle.uc_tstp.specs.Meaning.{MeanSteps, no_steps, one_step, MeansSource, MeansBody, MeanLines, no_lines, one_line, variables_of}
use Rattle.uc_tstp.specs.Reading.{ReadsInside, no_token, no_name, reads, ReadsProof, no_frame, in_frame}
use Rattle.uc_tstp.specs.Reading as reading

module _ (old new : Table) (grows : Grows old new) where
  module _ (bytes : List ℕ) (tokens : List Token) (names : List (List ℕ)) where
    still : (seen : Variables) {p : Parse} {t : Tree} → Means bytes tokens old seen p t → Means bytes tokens new seen p t
    still seen m = means_grows bytes tokens old new seen seen grows (extends_not seen) m

    steps_grow : (seen : Variables) {ss : List parse.Step} {steps : List LineStep} → MeanSteps bytes tokens old names seen ss steps → MeanSteps bytes tokens new names seen ss steps
    steps_grow seen no_steps = no_steps
    steps_grow seen (one_step s all) = one_step (record { by = s.by; way = s.way; path = s.path; to = still seen s.to }) (steps_grow seen all)

    source_grows : (seen : Variables) (s : Source) (source : LineSource) → MeansSource bytes tokens old names seen s source → MeansSource bytes tokens new names seen s source
    source_grows seen (from_file k) (File name) h = h
    source_grows seen (by_chain p ss ks) (Chain start steps parents) h = (still seen h.0, steps_grow seen h.1, h.2)
    source_grows seen (by_reflexive ks) (Reflexive parents) h = h
    source_grows seen (by_goal ks) (EncodeGoal parents) h = h
    source_grows seen (by_refute ks) (Refute parents) h = h
    source_grows seen s source h = elim h [ ]

    body_grows : (seen : Variables) (b : Body) (line : Line) → MeansBody bytes tokens old names seen b line → MeansBody bytes tokens new names seen b line
    body_grows seen (says l) line h = (h.0, still seen h.1, still seen h.2)
    body_grows seen falsum line h = h

    lines_grow : {ls : List parse.Line} {proof_lines : List Line} → MeanLines bytes tokens old names ls proof_lines → MeanLines bytes tokens new names ls proof_lines
    lines_grow no_lines = no_lines
    lines_grow (one_line {l = l} {line = line} m all) = one_line (record { name = m.name; body = body_grows (variables_of bytes tokens l) l.body line m.body; source = source_grows (variables_of bytes tokens l) l.source line.source m.source }) (lines_grow all)

  pub inside_grows : (which : Scope) (text : List ℕ) (frame : Frame) {answer : Result Proof ProofFault} → ReadsInside which old text frame answer → ReadsInside which new text frame answer
  inside_grows which text frame (no_token c) = no_token c
  inside_grows which text frame (reading.no_lines c l) = reading.no_lines c l
  inside_grows which text frame (no_name c l u) = no_name c l u
  inside_grows which text frame (reads c l u m) = reads c l u (lines_grow _ _ _ m)

  pub reading_grows : (text : List ℕ) {answer : Result Proof ProofFault} → ReadsProof old text answer → ReadsProof new text answer
  reading_grows text (no_frame x) = no_frame x
  reading_grows text (in_frame {frame = frame} x r) = in_frame x (inside_grows scope.Proof text frame r)
