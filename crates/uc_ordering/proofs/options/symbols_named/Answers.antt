use Rattle.std.proofs.Common.{◌≡◌, ◌∙◌, ◌++◌, ◌∷◌, ℕ, List, [], get_or, ap, sym, Some, is_none, option_map, arith}
use Rattle.std.proofs.lemmas.Grind.{common_steps}
use Rattle.uc_term.specs.declared.node.Sym.{Sym}
use Rattle.uc_ordering.specs.Numbers.{symbol_in}
use Rattle.uc_ordering.proofs.Steps.{found_more, find_on}
use Rattle.uc_ordering.proofs.Again.{get_any}
use Rattle.uc_ordering.proofs.options.symbols_named.Goals as goal

pub loop-name-preserved : goal.loop-name-preserved
loop-name-preserved c =
    let entries = c.args.by_name.now.map.entries in
    let names : List (List ℕ) = c.args.names.now in
    let i = c.loop-name.invariant in
    let f : Sym = record { 0 = c.in-Some.number } in
    let name : c.as_bytes.result.now ≡ get_or names c.loop-name.name-index [] = c.as_bytes.ensures ∙ c.name-item.is ∙ get_any names c.loop-name.name-index c.name-item.result [] c.loop-name-test.true in
    let found : symbol_in entries (get_or names c.loop-name.name-index []) ≡ Some f = ap (symbol_in entries) (sym name) ∙ ap (option_map (λ (n : ℕ). let s : Sym = record { 0 = n } in s)) (sym c.get.ensures ∙ c.in-Some.is) in (
      c.in_ok-push-in-Some.ensures.items ∙ ap (λ l. l ++ f ∷ []) i.0 ∙ sym (found_more (symbol_in entries) names c.loop-name.name-index [] f c.loop-name-test.true found),
      find_on (λ n. is_none (symbol_in entries n)) names c.loop-name.name-index [] c.loop-name-test.true (ap is_none found) i.1,
    )

pub returns-in-None-clause-err : goal.returns-in-None-clause-err
returns-in-None-clause-err c = grind (arith, common_steps)

pub returns-clause-ok : goal.returns-clause-ok
returns-clause-ok c = grind (arith, common_steps)

pub returns-clause-known : goal.returns-clause-known
returns-clause-known c = grind (arith, common_steps)
