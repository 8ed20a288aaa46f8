use Rattle.std.proofs.Common.{sym, ap, ◌∙◌, None, [], subst}
use Rattle.std.proofs.lemmas.Result.{err_from_is_err_and}
use Rattle.uc_fof.specs.Notes.{NoteGoes}
use Rattle.uc_fof.specs.Rules.{read, stop}
use Rattle.uc_fof.specs.Notes.{piece_of, Rest, is_note, is_no_note}
use Rattle.uc_fof.proofs.NoteParts.{note_reads}
use Rattle.uc_fof.proofs.Sequences.{hands_on}
use Rattle.uc_fof.proofs.notes.note_at.Goals as goal

pub returns-in-Behind : goal.returns-in-Behind
returns-in-Behind c = is_no_note (ap (piece_of None) (sym c.terminal_at.ensures) ∙ sym c.piece_of.ensures ∙ c.in-Behind.is)

pub returns-in_err-step : goal.returns-in_err-step
returns-in_err-step c =
    let p = err_from_is_err_and c.from_residual.result c.from_residual.ensures.1 in
    rw (p.1, p.2) (note_reads c.args.bytes.now c.args.tokens.now c.args.from c.in_err-step.field-0.0 (λ e. c.in_default.not-Behind (c.piece_of.ensures ∙ ap (piece_of None) c.terminal_at.ensures ∙ e)) (hands_on (Rest c.args.bytes.now c.args.tokens.now c.pieces.note.brackets.items c.pieces.note.at) (Rest c.args.bytes.now c.args.tokens.now [] c.args.from) c.in_err-step.field-0.0 (λ r k s. c.pieces.invariant (stop r k) s) c.in_err-step.ensures.stops))

pub returns : goal.returns
returns c =
    is_note (λ e. c.in_default.not-Behind (c.piece_of.ensures ∙ ap (piece_of None) c.terminal_at.ensures ∙ e))
    (c.pieces.invariant (read tt c.step.new.self.at) (subst (NoteGoes c.args.bytes.now c.args.tokens.now c.pieces.note c.step.new.self) c.if-branch.false c.in_ok-step.ensures.goes))
