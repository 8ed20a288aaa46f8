use Rattle.std.proofs.Common.{◌≡◌, ℕ, ◌<◌, ◌-◌, arith, length, ◌∙◌, List, get_or, [], refl}
use Rattle.std.proofs.lemmas.List.{get_or_default}
use Rattle.uc_term.specs.declared.node.Node.{Node}
use Rattle.uc_term.specs.declared.node.Node.TheVariants.{Var, App}
use Rattle.uc_term.proofs.Terms.{whole_one}
use Rattle.uc_kbo.specs.Kbo.{None}
use Rattle.uc_kbo.specs.Runs.{table_weighing}
use Rattle.uc_kbo.specs.Balances.{is_asked, has_counter}
use Rattle.uc_kbo.proofs.Covering.{read_plain}
use Rattle.uc_kbo.proofs.Balancing.{asks_parts}
use Rattle.uc_kbo.proofs.Asking.{agree_asked}
use Rattle.uc_kbo.proofs.Around.{climbed_init, climbed_var, climbed_app, climbed_up, s_around, t_around, climbed_end}
use Rattle.uc_kbo.proofs.wide.climb_from.Goals as goal

node_is : (ns : List Node) (i : ℕ) (d n : Node) → i < length ns → get_or ns i d ≡ n → get_or ns i (Var 0) ≡ n
node_is ns i d n h e = get_or_default ns i (Var 0) d h ∙ e

pub end_of-s_end-requires-clause-whole : goal.end_of-s_end-requires-clause-whole
end_of-s_end-requires-clause-whole c = whole_one c.args.s.now c.requires.s_whole

pub end_of-t_end-requires-clause-whole : goal.end_of-t_end-requires-clause-whole
end_of-t_end-requires-clause-whole c = whole_one c.args.t.now c.requires.t_whole

pub loop-from-init : goal.loop-from-init
loop-from-init c =
    let r = c.requires in
    let n = c.new-both.ensures in
    let e = c.extend.ensures in
    let h = c.heads-inner.ensures in
    let d = c.decide-verdict.ensures in
    record {
      climbed = λ asked f.
          let g = asks_parts c.args.s.now c.args.t.now c.args.at c.extend.new.self.first c.extend.new.self.second c.args.base c.extend.new.self.balance.base asked (e.base ∙ n.base) (e.first ∙ n.first) (e.second ∙ n.second) f in
          climbed_init (table_weighing c.args.w.now.w0 c.args.w.now.table.items) (is_asked asked) None (agree_asked asked) (λ x. x) c.args.s.now c.args.t.now c.args.at c.extend.new.self.first c.extend.new.self.second c.decide-verdict.result c.heads-inner.result (Var 0) (whole_one c.args.s.now c.requires.s_whole) (whole_one c.args.t.now c.requires.t_whole) r.common r.in_s r.in_t (r.differ (Var 0)) e.both.first e.both.second (e.first ∙ n.first) (e.second ∙ n.second) (e.first_to ∙ c.end_of-s_end.ensures.end) (e.second_to ∙ c.end_of-t_end.ensures.end) (rw (read_plain [] c.args.s.now, read_plain [] c.args.t.now) at h.greater) (rw (read_plain [] c.args.s.now, read_plain [] c.args.t.now) at h.less) (d.greater asked g) (d.less asked g) d.differ;
      both = e.both;
      begun = omega arith;
      part_first = omega arith;
      few = omega arith;
      base = e.base ∙ n.base;
    }

pub loop-from-preserved-in-Var : goal.loop-from-preserved-in-Var
loop-from-preserved-in-Var c =
    let k = c.loop-from.invariant.climbed (has_counter c.args.base) (λ x h. refl) in
    let below : c.loop-from.from - 1 < length c.args.s.now = omega (arith, k.begun, k.part_first, c.requires.in_s) in
    record {
      climbed = λ asked f. climbed_var (table_weighing c.args.w.now.w0 c.args.w.now.table.items) (is_asked asked) None (agree_asked asked) (λ x. x) c.args.s.now c.args.t.now c.args.at c.loop-from.part c.loop-from.from c.loop-from.done c.loop-from.both.first c.loop-from.both.second c.loop-from.verdict (c.loop-from.invariant.climbed asked f) c.requires.common c.requires.in_s c.requires.in_t (c.loop-from.from - 1) (omega arith) (Var 0) _ (node_is c.args.s.now (c.loop-from.from - 1) _ _ below c.in-Var.is);
      both = c.loop-from.invariant.both;
      begun = omega (arith, k.begun);
      part_first = k.part_first;
      few = omega (arith, k.few);
      base = c.loop-from.invariant.base;
    }

pub loop-from-preserved-then-arity-done : goal.loop-from-preserved-then-arity-done
loop-from-preserved-then-arity-done c =
    let k = c.loop-from.invariant.climbed (has_counter c.args.base) (λ x h. refl) in
    let below : c.loop-from.from - 1 < length c.args.s.now = omega (arith, k.begun, k.part_first, c.requires.in_s) in
    record {
      climbed = λ asked f. climbed_app (table_weighing c.args.w.now.w0 c.args.w.now.table.items) (is_asked asked) None (agree_asked asked) (λ x. x) c.args.s.now c.args.t.now c.args.at c.loop-from.part c.loop-from.from c.loop-from.done c.loop-from.both.first c.loop-from.both.second c.loop-from.verdict (c.loop-from.invariant.climbed asked f) c.requires.common c.requires.in_s c.requires.in_t (c.loop-from.from - 1) (omega arith) (Var 0) _ _ (node_is c.args.s.now (c.loop-from.from - 1) _ (App c.in-App.field-0 c.in-App.n) below c.in-App.is) c.if-arity-done.true;
      both = c.loop-from.invariant.both;
      begun = omega (arith, k.begun);
      part_first = k.part_first;
      few = omega (arith, k.few);
      base = c.loop-from.invariant.base;
    }

pub end_of_terms-s_end-requires-clause-whole : goal.end_of_terms-s_end-requires-clause-whole
end_of_terms-s_end-requires-clause-whole c = whole_one c.args.s.now c.requires.s_whole

pub end_of_terms-s_end-requires-clause-enough : goal.end_of_terms-s_end-requires-clause-enough
end_of_terms-s_end-requires-clause-enough c =
    let k = c.loop-from.invariant.climbed (has_counter c.args.base) (λ x h. refl) in
    let below : c.loop-from.from - 1 < length c.args.s.now = omega (arith, k.begun, k.part_first, c.requires.in_s) in
    (s_around (table_weighing c.args.w.now.w0 c.args.w.now.table.items) (is_asked (has_counter c.args.base)) None (agree_asked (has_counter c.args.base)) (λ x. x) c.args.s.now c.args.t.now c.args.at c.loop-from.part c.loop-from.from c.loop-from.done c.loop-from.both.first c.loop-from.both.second c.loop-from.verdict (c.loop-from.invariant.climbed (has_counter c.args.base) (λ x h. refl)) c.requires.common c.requires.in_s c.requires.in_t (c.loop-from.from - 1) (omega arith) (Var 0) _ _ (node_is c.args.s.now (c.loop-from.from - 1) _ (App c.in-App.field-0 c.in-App.n) below c.in-App.is) (whole_one c.args.s.now c.requires.s_whole) (whole_one c.args.t.now c.requires.t_whole) (omega arith)).enough

pub end_of_terms-t_end-requires-clause-whole : goal.end_of_terms-t_end-requires-clause-whole
end_of_terms-t_end-requires-clause-whole c = whole_one c.args.t.now c.requires.t_whole

pub end_of_terms-t_end-requires-clause-enough : goal.end_of_terms-t_end-requires-clause-enough
end_of_terms-t_end-requires-clause-enough c =
    let k = c.loop-from.invariant.climbed (has_counter c.args.base) (λ x h. refl) in
    let below : c.loop-from.from - 1 < length c.args.s.now = omega (arith, k.begun, k.part_first, c.requires.in_s) in
    (t_around (table_weighing c.args.w.now.w0 c.args.w.now.table.items) (is_asked (has_counter c.args.base)) None (agree_asked (has_counter c.args.base)) (λ x. x) c.args.s.now c.args.t.now c.args.at c.loop-from.part c.loop-from.from c.loop-from.done c.loop-from.both.first c.loop-from.both.second c.loop-from.verdict (c.loop-from.invariant.climbed (has_counter c.args.base) (λ x h. refl)) c.requires.common c.requires.in_s c.requires.in_t (c.loop-from.from - 1) (omega arith) (Var 0) _ _ (node_is c.args.s.now (c.loop-from.from - 1) _ (App c.in-App.field-0 c.in-App.n) below c.in-App.is) (whole_one c.args.s.now c.requires.s_whole) (whole_one c.args.t.now c.requires.t_whole) (omega arith)).enough

pub loop-from-preserved : goal.loop-from-preserved
loop-from-preserved c =
    let k = c.loop-from.invariant.climbed (has_counter c.args.base) (λ x h. refl) in
    let below : c.loop-from.from - 1 < length c.args.s.now = omega (arith, k.begun, k.part_first, c.requires.in_s) in
    let e = c.extend-else-arity-done.ensures in
    let d = c.decide-verdict-else-arity-done.ensures in
    let n = c.extend-else-arity-done.new.self in
    record {
      climbed = λ asked f.
          let g = asks_parts c.args.s.now c.args.t.now c.args.at n.first n.second c.args.base n.balance.base asked (e.base ∙ c.loop-from.invariant.base) (e.first ∙ k.s_from) (e.second ∙ k.t_from) f in
          climbed_up (table_weighing c.args.w.now.w0 c.args.w.now.table.items) (is_asked asked) None (agree_asked asked) (λ x. x) c.args.s.now c.args.t.now c.args.at c.loop-from.part c.loop-from.from c.loop-from.done c.loop-from.both.first c.loop-from.both.second c.loop-from.verdict (c.loop-from.invariant.climbed asked f) c.requires.common c.requires.in_s c.requires.in_t (c.loop-from.from - 1) (omega arith) (Var 0) _ _ (node_is c.args.s.now (c.loop-from.from - 1) _ (App c.in-App.field-0 c.in-App.n) below c.in-App.is) (whole_one c.args.s.now c.requires.s_whole) (whole_one c.args.t.now c.requires.t_whole) (omega arith) n.first n.second c.decide-verdict-else-arity-done.result e.both.first e.both.second e.first e.second (e.first_to ∙ c.end_of_terms-s_end.ensures.end) (e.second_to ∙ c.end_of_terms-t_end.ensures.end) (d.greater asked g) (d.less asked g) d.differ;
      both = e.both;
      begun = omega arith;
      part_first = omega (arith, k.begun, k.part_first);
      few = omega arith;
      base = e.base ∙ c.loop-from.invariant.base;
    }

pub returns : goal.returns
returns c asked f = climbed_end (table_weighing c.args.w.now.w0 c.args.w.now.table.items) (is_asked asked) None (agree_asked asked) (λ x. x) c.args.s.now c.args.t.now c.args.at c.loop-from.part c.loop-from.from c.loop-from.done c.loop-from.both.first c.loop-from.both.second c.loop-from.verdict (c.loop-from.invariant.climbed asked f) (omega arith) c.requires.s_whole (whole_one c.args.s.now c.requires.s_whole) c.requires.in_s
