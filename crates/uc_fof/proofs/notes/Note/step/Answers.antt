use Rattle.std.proofs.Common.{arith, subst, ap, ◌∙◌, ◌+◌, ◌-◌, take}
use Rattle.uc_fof.specs.declared.notes.Piece.TheVariants.{Plain, Opens, Closes, Behind, Misplaced}
use Rattle.uc_fof.specs.Notes.{Rest, has_token, has_opening, has_closing, ends_before, stops_before}
use Rattle.uc_fof.proofs.NoteParts.{piece_is, some_piece}
use Rattle.uc_fof.proofs.notes.Note.step.Goals as goal

pub returns-in-Plain-clause-goes : goal.returns-in-Plain-clause-goes
returns-in-Plain-clause-goes c = (omega arith, some_piece c.args.bytes.now c.args.tokens.now c.args.self.now.brackets.items c.args.self.now.at Plain (piece_is c.args.bytes.now c.args.tokens.now c.args.self.now.brackets.items c.args.self.now.at c.as_slice.result.now c.innermost.result c.terminal_at.result c.piece_of.result Plain c.as_slice.ensures.value c.innermost.ensures c.terminal_at.ensures c.piece_of.ensures c.in-Plain.is) (λ e. cc), λ o rest. has_token (piece_is c.args.bytes.now c.args.tokens.now c.args.self.now.brackets.items c.args.self.now.at c.as_slice.result.now c.innermost.result c.terminal_at.result c.piece_of.result Plain c.as_slice.ensures.value c.innermost.ensures c.terminal_at.ensures c.piece_of.ensures c.in-Plain.is) rest)

pub returns-in_ok-push-in-Opens-clause-goes : goal.returns-in_ok-push-in-Opens-clause-goes
returns-in_ok-push-in-Opens-clause-goes c = (omega arith, some_piece c.args.bytes.now c.args.tokens.now c.args.self.now.brackets.items c.args.self.now.at (Opens c.in-Opens.bracket) (piece_is c.args.bytes.now c.args.tokens.now c.args.self.now.brackets.items c.args.self.now.at c.as_slice.result.now c.innermost.result c.terminal_at.result c.piece_of.result (Opens c.in-Opens.bracket) c.as_slice.ensures.value c.innermost.ensures c.terminal_at.ensures c.piece_of.ensures c.in-Opens.is) (λ e. cc), λ o rest. has_opening (piece_is c.args.bytes.now c.args.tokens.now c.args.self.now.brackets.items c.args.self.now.at c.as_slice.result.now c.innermost.result c.terminal_at.result c.piece_of.result (Opens c.in-Opens.bracket) c.as_slice.ensures.value c.innermost.ensures c.terminal_at.ensures c.piece_of.ensures c.in-Opens.is) (rw c.in_ok-push-in-Opens.ensures.items at rest))

pub returns-in-Closes-clause-goes : goal.returns-in-Closes-clause-goes
returns-in-Closes-clause-goes c = (omega arith, some_piece c.args.bytes.now c.args.tokens.now c.args.self.now.brackets.items c.args.self.now.at Closes (piece_is c.args.bytes.now c.args.tokens.now c.args.self.now.brackets.items c.args.self.now.at c.as_slice.result.now c.innermost.result c.terminal_at.result c.piece_of.result Closes c.as_slice.ensures.value c.innermost.ensures c.terminal_at.ensures c.piece_of.ensures c.in-Closes.is) (λ e. cc), λ o rest. has_closing (piece_is c.args.bytes.now c.args.tokens.now c.args.self.now.brackets.items c.args.self.now.at c.as_slice.result.now c.innermost.result c.terminal_at.result c.piece_of.result Closes c.as_slice.ensures.value c.innermost.ensures c.terminal_at.ensures c.piece_of.ensures c.in-Closes.is) (subst (λ bs. Rest c.args.bytes.now c.args.tokens.now bs (c.args.self.now.at + 1) o) (c.pop.ensures.rest ∙ ap (λ n. take (n - 1) c.args.self.now.brackets.items) c.args.self.now.brackets.ok.0) rest))

pub returns-in-Behind-clause-goes : goal.returns-in-Behind-clause-goes
returns-in-Behind-clause-goes c = ends_before (piece_is c.args.bytes.now c.args.tokens.now c.args.self.now.brackets.items c.args.self.now.at c.as_slice.result.now c.innermost.result c.terminal_at.result c.piece_of.result Behind c.as_slice.ensures.value c.innermost.ensures c.terminal_at.ensures c.piece_of.ensures c.in-Behind.is)

pub returns-in-Misplaced-clause-stops : goal.returns-in-Misplaced-clause-stops
returns-in-Misplaced-clause-stops c = stops_before (piece_is c.args.bytes.now c.args.tokens.now c.args.self.now.brackets.items c.args.self.now.at c.as_slice.result.now c.innermost.result c.terminal_at.result c.piece_of.result Misplaced c.as_slice.ensures.value c.innermost.ensures c.terminal_at.ensures c.piece_of.ensures c.in-Misplaced.is)
