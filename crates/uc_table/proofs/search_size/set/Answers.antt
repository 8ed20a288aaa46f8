use Rattle.std.proofs.Common.{◌≡◌, ℕ, List, ◌++◌, ◌∷◌, [], length, rules, subst}
use Rattle.uc_table.specs.declared.search_instances.Form.{Form}
use Rattle.uc_table.specs.declared.search_size.State.{State}
use Rattle.uc_table.specs.SearchInstances.{AreOf, AreSettledBelow}
use Rattle.uc_table.proofs.SearchLevels.{is_set, is_open}
use Rattle.uc_table.proofs.search_size.set.Goals as goal

pub returns-clause-set : goal.returns-clause-set
returns-clause-set c =
    let s = c.args.state.now in
    let t : State = record { prefix = c.push-2.new.self; marks = c.push.new.self; waiting = c.follow.new.waiting } in
    let p : t.prefix.items ≡ s.prefix.items ++ c.args.value ∷ [] = search rules in
    let m : t.marks.items ≡ s.marks.items ++ length s.waiting.entries.items ∷ [] = search rules in
    let of : AreOf c.args.rules.now.forms.items c.follow.new.waiting.entries.items = subst (λ (z : List Form). AreOf z c.follow.new.waiting.entries.items) c.deref.ensures.value c.in_ok-refuted.ensures.of in
    is_set c.args.rules.now s t c.args.value c.requires.open c.requires.room c.requires.value p m c.in_ok-refuted.ensures.well of c.in_ok-refuted.ensures.extends

pub returns-clause-open : goal.returns-clause-open
returns-clause-open c r =
    let s = c.args.state.now in
    let t : State = record { prefix = c.push-2.new.self; marks = c.push.new.self; waiting = c.follow.new.waiting } in
    let p : t.prefix.items ≡ s.prefix.items ++ c.args.value ∷ [] = search rules in
    let m : t.marks.items ≡ s.marks.items ++ length s.waiting.entries.items ∷ [] = search rules in
    let of : AreOf c.args.rules.now.forms.items c.follow.new.waiting.entries.items = subst (λ (z : List Form). AreOf z c.follow.new.waiting.entries.items) c.deref.ensures.value c.in_ok-refuted.ensures.of in
    let size = c.args.rules.now.size in
    let old = s.waiting.entries.items in
    let new = c.follow.new.waiting.entries.items in
    let b1 : AreSettledBelow size c.deref-2.result.now c.args.rules.now.forms.items c.len-cell.result 0 old new = subst (λ (z : List Form). AreSettledBelow size c.deref-2.result.now z c.len-cell.result 0 old new) c.deref.ensures.value (c.in_ok-refuted.ensures.settled r) in
    let b2 : AreSettledBelow size t.prefix.items c.args.rules.now.forms.items c.len-cell.result 0 old new = subst (λ (z : List ℕ). AreSettledBelow size z c.args.rules.now.forms.items c.len-cell.result 0 old new) c.deref-2.ensures.value b1 in
    let e : c.len-cell.result ≡ length s.prefix.items = search rules in
    let b3 : AreSettledBelow size t.prefix.items c.args.rules.now.forms.items (length s.prefix.items) 0 old new = subst (λ (z : ℕ). AreSettledBelow size t.prefix.items c.args.rules.now.forms.items z 0 old new) e b2 in
    is_open c.args.rules.now s t c.args.value c.requires.open c.requires.room c.requires.value p m c.in_ok-refuted.ensures.well of c.in_ok-refuted.ensures.extends b3
