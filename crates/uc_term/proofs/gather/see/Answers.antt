use Rattle.std.proofs.Common.{◌≡◌, ℕ, ◌<◌, List, [], ◌∷◌, length, slice_get, get_or, Some, Result, Ok, Err, OnOk, IfErr, sym, ap, ◌∙◌, subst, arith}
use Rattle.std.proofs.lemmas.Option.{slice_get-get_or}
use Rattle.std.proofs.lemmas.List.{length-map}
use Rattle.uc_term.specs.declared.node.Sym.{Sym}
use Rattle.uc_term.specs.Table.{Table, name_of, IsInterned}
use Rattle.uc_term.specs.Gathering.{name_entry, IsNamed, occurrence}
use Rattle.uc_term.proofs.Gathered.{goes_on_seen, clash, too_many, goes_on_new, named_new, named_seen, stops_at}
use Rattle.uc_term.proofs.gather.see.Goals as goal

on_ok : {A : Type 0} {E : Type 0} (r : Result A E) {P Q : Type 0} → (P → Q) → OnOk r P → OnOk r Q
on_ok (Ok a) h p = h p
on_ok (Err e) h p = p

always_ok : {A : Type 0} {E : Type 0} (r : Result A E) {P : Type 0} → P → OnOk r P
always_ok (Ok a) p = p
always_ok (Err e) p = tt

if_err : {A : Type 0} {E : Type 0} (r : Result A E) {P Q : E → Type 0} → ((e : E) → P e → Q e) → IfErr r P → IfErr r Q
if_err (Ok a) h p = p
if_err (Err e) h p = h e p

interned : (names new : Table) (name name' : List ℕ) (number : Sym) → name ≡ name' → IsInterned names new name 0 number → IsInterned names new name' 0 number
interned names new name name' number e i = subst (λ (n : List ℕ). IsInterned names new n 0 number) e i

as_many : (table names : Table) (seen : List Sym) → IsNamed table names seen → length names ≡ length seen
as_many table names seen n = ap length n.names_are ∙ length-map seen (λ f. name_entry (name_of table f))

at_number : (seen : List Sym) (i : ℕ) (first : Sym) → i < length seen → first ≡ get_or seen i first → slice_get seen i ≡ Some first
at_number seen i first h e = slice_get-get_or seen i first h ∙ ap Some (sym e)

module _ (c : goal.After-same_name) where
  below : c.in_ok-number.field-0.0 < length c.args.names.now
  below = omega (arith, c.if-number-count.true, c.len-count.ensures.count)

  here : slice_get c.args.seen.now.items c.in_ok-number.field-0.0 ≡ Some c.index-first.result.now
  here = at_number c.args.seen.now.items c.in_ok-number.field-0.0 c.index-first.result.now (omega (arith, below, as_many c.args.symbols.now c.args.names.now c.args.seen.now.items c.requires.named)) c.index-first.ensures

pub returns-then-number-count-clause-ok : goal.returns-then-number-count-clause-ok
returns-then-number-count-clause-ok c =
    on_ok c.same_name.result (λ e. goes_on_seen c.args.symbols.now c.args.names.now c.args.seen.now.items c.requires.named c.len-count.ensures.distinct c.args.f c.intern.new.self c.in_ok-number.field-0 (interned _ _ _ _ _ c.name.ensures c.in_ok-number.ensures.interned) c.args.term c.args.pos.0 (below c) (here c ∙ ap Some e)) c.same_name.ensures.ok

pub returns-then-number-count-clause-names : goal.returns-then-number-count-clause-names
returns-then-number-count-clause-names c =
    always_ok c.same_name.result (named_seen c.args.symbols.now c.args.names.now c.args.seen.now.items c.requires.named c.len-count.ensures.distinct c.args.f c.intern.new.self c.in_ok-number.field-0 (interned _ _ _ _ _ c.name.ensures c.in_ok-number.ensures.interned) (below c))

pub returns-then-number-count-clause-err : goal.returns-then-number-count-clause-err
returns-then-number-count-clause-err c =
    if_err c.same_name.result (λ e h. stops_at c.args.symbols.now c.args.seen.now.items (occurrence c.args.term c.args.pos.0 c.args.f ∷ []) e (clash c.args.symbols.now c.args.names.now c.args.seen.now.items c.requires.named c.len-count.ensures.distinct c.args.f c.intern.new.self c.in_ok-number.field-0 (interned _ _ _ _ _ c.name.ensures c.in_ok-number.ensures.interned) c.index-first.result.now c.args.term c.args.pos e (below c) (here c) h)) c.same_name.ensures.err

pub returns-then-count-ge-MAX_SYMBOLS-clause-err : goal.returns-then-count-ge-MAX_SYMBOLS-clause-err
returns-then-count-ge-MAX_SYMBOLS-clause-err c =
    too_many c.args.symbols.now c.args.names.now c.args.seen.now.items c.requires.named c.len-count.ensures.distinct c.args.f c.intern.new.self c.in_ok-number.field-0 (interned _ _ _ _ _ c.name.ensures c.in_ok-number.ensures.interned) c.args.term c.args.pos (omega (arith, c.len-count.ensures.count)) (omega (arith, c.len-count.ensures.count, as_many c.args.symbols.now c.args.names.now c.args.seen.now.items c.requires.named))

pub returns-clause-ok : goal.returns-clause-ok
returns-clause-ok c =
    goes_on_new c.args.symbols.now c.args.names.now c.args.seen.now.items c.requires.named c.len-count.ensures.distinct c.args.f c.intern.new.self c.in_ok-number.field-0 (interned _ _ _ _ _ c.name.ensures c.in_ok-number.ensures.interned) c.push.new.self.items c.args.term c.args.pos.0 (omega (arith, c.len-count.ensures.count)) (omega (arith, c.len-count.ensures.count, as_many c.args.symbols.now c.args.names.now c.args.seen.now.items c.requires.named)) c.in_ok-push.ensures.items

pub returns-clause-names : goal.returns-clause-names
returns-clause-names c =
    named_new c.args.symbols.now c.args.names.now c.args.seen.now.items c.requires.named c.len-count.ensures.distinct c.args.f c.intern.new.self c.in_ok-number.field-0 (interned _ _ _ _ _ c.name.ensures c.in_ok-number.ensures.interned) c.push.new.self.items (omega (arith, c.len-count.ensures.count)) c.requires.has c.in_ok-push.ensures.items
