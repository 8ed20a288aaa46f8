use Rattle.std.proofs.Common.{refl, sym, ◌∙◌, arith}
use Rattle.uc_clause.specs.declared.terminal.Terminal.TheVariants.{Comma}
use Rattle.uc_clause.specs.Drafts.{closes_functor, goes_to_next, at_argument_too_many, behind_argument}
use Rattle.uc_clause.proofs.Ends.{some_other}
use Rattle.uc_clause.proofs.Tables.{grows_not, interned_grows}
use Rattle.uc_clause.proofs.Interned.{interned_is}
use Rattle.uc_clause.proofs.grammar.draft.Draft.behind.Goals as goal

pub returns-then-top-ge-MAX_ARITY-clause-stops : goal.returns-then-top-ge-MAX_ARITY-clause-stops
returns-then-top-ge-MAX_ARITY-clause-stops c = λ seen.
    at_argument_too_many c.pop.new.self.items c.in-Some.top c.requires.behind c.in-Some.ensures.items (sym c.in-Comma.ensures) c.if-top-ge-MAX_ARITY.true

pub overflow_add-self-in-Comma : goal.overflow_add-self-in-Comma
overflow_add-self-in-Comma c = omega (arith, some_other c.args.bytes.now c.args.tokens.now c.args.self.now.at Comma (sym c.in-Comma.ensures) (λ e. cc))

pub returns-in_ok-sym-in-Close-clause-moves : goal.returns-in_ok-sym-in-Close-clause-moves
returns-in_ok-sym-in-Close-clause-moves c = λ seen.
    closes_functor c.pop.new.self.items c.in-Some.top c.in_ok-sym-in-Close.sym c.intern.new.self c.requires.behind c.in-Some.ensures.items (sym c.in-Close.ensures)
    (rw (← c.in_ok-name-in-Close.ensures, ← c.as_bytes.ensures) c.in_ok-sym-in-Close.ensures.interned.0)
    (interned_grows _ _ _ _ _ c.in_ok-sym-in-Close.ensures.interned)
    (rw (← c.in_ok-name-in-Close.ensures, ← c.as_bytes.ensures) (interned_is _ _ _ _ _ c.in_ok-sym-in-Close.ensures.interned))
    refl

pub returns-in_ok-push-in-Comma-clause-moves : goal.returns-in_ok-push-in-Comma-clause-moves
returns-in_ok-push-in-Comma-clause-moves c = λ seen.
    goes_to_next c.pop.new.self.items c.in-Some.top c.requires.behind c.in-Some.ensures.items (sym c.in-Comma.ensures) c.if-top-ge-MAX_ARITY.false
    (rw c.in_ok-push-in-Comma.ensures.items refl)

pub returns-in_default-terminal_at : goal.returns-in_default-terminal_at
returns-in_default-terminal_at c = record {
  moves = tt;
  stops = λ seen. behind_argument c.pop.new.self.items c.in-Some.top c.requires.behind c.in-Some.ensures.items (λ e. c.in_default-terminal_at.not-Close (c.terminal_at.ensures ∙ e)) (λ e. c.in_default-terminal_at.not-Comma (c.terminal_at.ensures ∙ e));
  grows = grows_not c.args.symbols.now;
}
