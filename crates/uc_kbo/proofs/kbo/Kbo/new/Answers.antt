use Rattle.std.proofs.Common.{◌≡◌, ◌<◌, ◌==◌, ◌∙◌, sym, ap, subst, List, count_by, arith, ℕ, length}
use Rattle.uc_term.specs.declared.node.Sym.{Sym}
use Rattle.uc_term.specs.Table.{Table, Has}
use Rattle.uc_order.specs.Members.{In, AreDistinct}
use Rattle.uc_order.specs.Precedence.{IsTotalOn}
use Rattle.uc_kbo.specs.declared.weights.Weighed.{Weighed}
use Rattle.uc_kbo.specs.Faults.{weighed, HasConstant, NoneBad}
use Rattle.uc_kbo.specs.Weights.{symbols_of, IsTable, symbol_or, least_constant}
use Rattle.uc_kbo.specs.Valid.{IsTied}
use Rattle.uc_kbo.proofs.Tables.{each_in, each_of, symbols-weighed, constants-weighed, fit_of, no_bad}
use Rattle.uc_kbo.proofs.kbo.Kbo.new.Goals as goal

distinct : (table : Table) (fs : List Sym) (ws : List ℕ) (es : List Weighed) → length ws ≡ length fs → es ≡ weighed table fs ws → AreDistinct fs → AreDistinct (symbols_of es)
distinct table fs ws es h e a = let P : List Sym → Type 0 = AreDistinct in subst P (sym (ap symbols_of e ∙ symbols-weighed table fs ws h)) a

valid : (table : Table) (signature fs : List Sym) (ws : List ℕ) (w0 : ℕ) (es : List Weighed) → 0 < w0 → length ws ≡ length fs → es ≡ weighed table fs ws → IsTotalOn signature fs → HasConstant table signature → NoneBad w0 es → IsTable w0 es
valid table signature fs ws w0 es p h e t c n = record {
  some_weight = p;
  distinct = distinct table fs ws es h e t.1;
  constant = (let P : List Weighed → Type 0 = λ l. 0 < count_by (λ (x : Weighed). x.arity == 0) l in subst P (sym e) (constants-weighed table fs ws c.0 h (each_in (In fs) signature c.0 t.2 c.1.0) c.1.1));
  fit = fit_of w0 es n;
}

pub weigh-requires-clause-of_table : goal.weigh-requires-clause-of_table
weigh-requires-clause-of_table c = each_of (In c.args.signature.now) (Has c.args.symbols.now) c.args.precedence.now (λ f i. each_in (Has c.args.symbols.now) c.args.signature.now f c.requires.of_table i) c.in_ok-check_precedence.ensures.ok.0

pub slots_of-requires : goal.slots_of-requires
slots_of-requires c = distinct c.args.symbols.now c.args.precedence.now c.args.weights.now c.deref-2.result.now c.requires.as_many (c.deref-2.ensures.value ∙ c.in_ok-entries.ensures) c.in_ok-check_precedence.ensures.ok.1

pub invariant_of-result : goal.invariant_of-result
invariant_of-result c =
    let es = c.in_ok-entries.entries.items in
    let P : List Weighed → Type 0 = λ l. IsTied c.args.w0 l c.in_ok-table.table.items in
    let Q : List Weighed → Type 0 = NoneBad c.args.w0 in
    record {
      valid = valid c.args.symbols.now c.args.signature.now c.args.precedence.now c.args.weights.now c.args.w0 es (omega (arith, c.requires.w0_some)) c.requires.as_many c.in_ok-entries.ensures c.in_ok-check_precedence.ensures.ok c.requires.constant (subst Q c.deref.ensures.value (no_bad c.args.w0 c.deref.result.now c.first_bad.result c.first_bad.ensures c.in_default.not-Some));
      tied = subst P c.deref-2.ensures.value c.in_ok-table.ensures;
      lightest = ap (λ (s : Sym). s.0) (c.least_of-least.ensures ∙ ap (λ l. symbol_or (least_constant l)) c.deref-3.ensures.value);
    }
