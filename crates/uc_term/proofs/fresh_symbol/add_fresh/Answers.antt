use Rattle.std.proofs.Common.{arith, ◌≡◌, ℕ, ◌<◌, List, [], Result, Ok, Err, IfOk, OnErr, append-nil, refl, sym, ◌∙◌, subst}
use Rattle.uc_term.specs.declared.node.Sym.{Sym}
use Rattle.uc_term.specs.Table.{Table, IsInterned, AddsAtMost, Grows}
use Rattle.uc_term.specs.Signatures.{tried_name, IsFree, IsFreshFor}
use Rattle.uc_term.specs.Gathering.{HasAll, AreNamesOf}
use Rattle.uc_term.proofs.Grown.{is_fresh_for, adds_at_most, interned_grows}
use Rattle.uc_term.proofs.FreshNames.{some_is_free}
use Rattle.uc_term.proofs.fresh_symbol.add_fresh.Goals as goal

made : {E : Type 0} (start old new : Table) (word : List ℕ) (arity : ℕ) (fs : List Sym) (number : ℕ) (name name' : List ℕ) (r : Result Sym E) → old ≡ start → HasAll start fs → name ≡ tried_name word number → name' ≡ name → IsFree old fs name' → ((n : ℕ) → n < number → IsFree old fs (tried_name word n) → ⊥) → IfOk r (IsInterned old new name' arity) → IfOk r (IsFreshFor new word arity fs)
made start old new word arity fs number name name' (Ok f) same has e e' free none_before i =
    let is : name' ≡ tried_name word number = e' ∙ e in
    is_fresh_for old new word arity fs f number (subst (λ (t : Table). HasAll t fs) (sym same) has) (subst (λ (n : List ℕ). IsInterned old new n arity f) is i) (subst (IsFree old fs) is free) none_before
made start old new word arity fs number name name' (Err x) same has e e' free none_before i = i

pub returns-then-is_free-clause-fresh : goal.returns-then-is_free-clause-fresh
returns-then-is_free-clause-fresh c =
    made c.args.symbols.now c.loop-number.symbols c.intern.new.self c.args.word.now c.args.arity c.args.taken.now c.loop-number.number c.in_ok-name.name.items c.as_slice-then-is_free.result.now c.intern.result c.loop-number.invariant.same c.requires c.in_ok-name.ensures c.as_slice-then-is_free.ensures.value (rw c.as_slice-then-is_free.ensures.value (rw c.as_slice.ensures.value at ((c.if-is_free.ensures c.loop-number.symbols c.args.taken.now (subst (λ (t : Table). AreNamesOf t c.args.taken.now c.in_ok-names.names) (sym c.loop-number.invariant.same) c.in_ok-names.ensures)).0 refl))) c.loop-number.invariant.none_before c.intern.ensures.interned

only : {E : Type 0} (start old new : Table) (arity : ℕ) (name : List ℕ) (r : Result Sym E) → old ≡ start → IfOk r (IsInterned old new name arity) → IfOk r (AddsAtMost start new)
only start old new arity name (Ok f) same i = adds_at_most start new name arity f (subst (λ (t : Table). IsInterned t new name arity f) same i)
only start old new arity name (Err x) same i = i

pub returns-then-is_free-clause-only : goal.returns-then-is_free-clause-only
returns-then-is_free-clause-only c = only c.args.symbols.now c.loop-number.symbols c.intern.new.self c.args.arity c.as_slice-then-is_free.result.now c.intern.result c.loop-number.invariant.same c.intern.ensures.interned

grown : {E : Type 0} (start old new : Table) (arity : ℕ) (name : List ℕ) (r : Result Sym E) → old ≡ start → IfOk r (IsInterned old new name arity) → OnErr r (new ≡ old) → Grows start new
grown start old new arity name (Ok f) same i e = subst (λ (t : Table). Grows t new) same (interned_grows old new name arity f i)
grown start old new arity name (Err x) same i e = subst (λ (t : Table). Grows t new) same ([], e ∙ sym (append-nil old))

pub returns-then-is_free-clause-grows : goal.returns-then-is_free-clause-grows
returns-then-is_free-clause-grows c = grown c.args.symbols.now c.loop-number.symbols c.intern.new.self c.args.arity c.as_slice-then-is_free.result.now c.intern.result c.loop-number.invariant.same c.intern.ensures.interned c.intern.ensures.err

pub unreachable-requires : goal.unreachable-requires
unreachable-requires c = some_is_free c.loop-number.symbols c.args.taken.now c.args.word.now (search (arith)) (λ n p. c.loop-number.invariant.none_before n (omega (arith, p, c.loop-number-test.false)))
