use Rattle.std.proofs.Common.{◌≡◌, ◌∙◌, IsTrue, Bool, false, List, [], ◌∷◌, Some, refl, sym, subst, ap}
use Rattle.uc_term.specs.declared.node.Sym.{Sym}
use Rattle.uc_term.specs.Tree.{Tree}
use Rattle.uc_fact.specs.Live.{Live}
use Rattle.uc_fact.specs.declared.ac_facts.AcFacts.{AcFacts}
use Rattle.uc_ac.specs.AcEqual.{AcEqual}
use Rattle.uc_ac.specs.AcFacts.{symbols_of}
use Rattle.uc_ac.specs.Joining.{AreFactsOf, IsAcAnswer, has_facts, has_none}
use Rattle.uc_ac.proofs.Answered.{answer_joins, none_by}
use Rattle.uc_ac.proofs.joining.ac_join.Goals as goal

never : {A : Type 0} {b : Bool} → IsTrue b → b ≡ false → A
never h e = absurd cc

answered : (live : List Live) (s t : Tree) (list : List AcFacts) → AreFactsOf live s t list → (list ≡ [] → ⊥) → AcEqual (symbols_of list) s t → IsAcAnswer live s t (Some list)
answered live s t [] h n e = absurd (n refl)
answered live s t (facts ∷ list) h n e = has_facts h e

pub returns-then-sizes_or_heads_differ-clause-answer : goal.returns-then-sizes_or_heads_differ-clause-answer
returns-then-sizes_or_heads_differ-clause-answer g c = has_none (λ facts list h e. c.sizes_or_heads_differ.ensures c.if-sizes_or_heads_differ.true (symbols_of (facts ∷ list)) e)

pub returns-then-is_empty-clause-answer : goal.returns-then-is_empty-clause-answer
returns-then-is_empty-clause-answer g c = none_by (g.I.Index.live c.args.index.now) c.args.s.now c.args.t.now c.in_ok-list.list c.in_ok-list.ensures (λ facts rest same e. let empty = c.is_empty.ensures.0 c.if-is_empty.true in absurd cc)

pub returns-then-not-branch-clause-answer : goal.returns-then-not-branch-clause-answer
returns-then-not-branch-clause-answer g c =
    let symbols = c.as_slice-2.ensures.value ∙ c.in_ok-symbols.ensures ∙ ap symbols_of c.as_slice.ensures in
    none_by (g.I.Index.live c.args.index.now) c.args.s.now c.args.t.now c.in_ok-list.list c.in_ok-list.ensures (λ facts rest same e. never (c.in_ok-ac_equal.ensures.1 (subst (λ (l : List Sym). AcEqual l c.args.s.now c.args.t.now) (sym symbols) e)) c.if-not-branch.true)

pub returns-clause-answer : goal.returns-clause-answer
returns-clause-answer g c =
    let symbols = c.as_slice-2.ensures.value ∙ c.in_ok-symbols.ensures ∙ ap symbols_of c.as_slice.ensures in
    answered (g.I.Index.live c.args.index.now) c.args.s.now c.args.t.now c.in_ok-list.list c.in_ok-list.ensures (λ e. never (c.is_empty.ensures.1 e) c.if-is_empty.false) (subst (λ (l : List Sym). AcEqual l c.args.s.now c.args.t.now) symbols (c.in_ok-ac_equal.ensures.0 c.if-not-branch.false))

pub returns-clause-joined : goal.returns-clause-joined
returns-clause-joined g c =
    let symbols = c.as_slice-2.ensures.value ∙ c.in_ok-symbols.ensures ∙ ap symbols_of c.as_slice.ensures in
    answer_joins (g.O.Order.meaning c.args.order.now) (g.met.O.Order.laws c.args.order.now) (g.I.Index.live c.args.index.now) c.args.s.now c.args.t.now c.in_ok-list.list
    (answered (g.I.Index.live c.args.index.now) c.args.s.now c.args.t.now c.in_ok-list.list c.in_ok-list.ensures (λ e. never (c.is_empty.ensures.1 e) c.if-is_empty.false) (subst (λ (l : List Sym). AcEqual l c.args.s.now c.args.t.now) symbols (c.in_ok-ac_equal.ensures.0 c.if-not-branch.false)))
