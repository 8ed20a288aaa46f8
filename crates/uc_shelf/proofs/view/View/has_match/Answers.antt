use Rattle.std.proofs.Common.{◌+◌, ◌≤◌, ◌∷◌, [], length, drop, refl, sym, subst, arith}
use Rattle.uc_term.specs.Flat.{tree_of}
use Rattle.uc_fact.specs.Live.{rules_of}
use Rattle.uc_fact.specs.Retrieval.{FindsNothing}
use Rattle.uc_shelf.specs.Entries.{born, live, living}
use Rattle.uc_shelf.proofs.Viewed.{nothing_now, rules_at, rules_end, ahead_on, all_found}
use Rattle.uc_shelf.proofs.view.View.has_match.Goals as goal

pub returns-then-entry_matches-clause-yes : goal.returns-then-entry_matches-clause-yes
returns-then-entry_matches-clause-yes c h g =
    let es = c.self.inside.front.now.entries in
    let k = c.loop-k.k in
    let n = c.loop-k.number in
    let e = c.read-entry.result.now in
    let t = tree_of c.args.term.now in
    let all : FindsNothing t (rules_of (live es)) = subst (λ z. FindsNothing t (rules_of (live z))) (sym c.self.view_is) g in
    let here : FindsNothing t (rules_of (living es n (e ∷ []))) = nothing_now t (rules_of (live es)) (rules_of (living es n (drop k es))) (rules_of (living es n (e ∷ []))) (rules_of (living es (n + length (born (e ∷ []))) (drop (k + 1) es))) [] (rules_at es es k n e c.read-entry.ensures) c.loop-k.invariant.ahead all in
    c.entry_matches.ensures.yes c.if-entry_matches.true (subst (λ z. FindsNothing t (rules_of (living z n (e ∷ [])))) c.self.view_is here)

pub loop-k-preserved : goal.loop-k-preserved
loop-k-preserved c =
    let es = c.self.inside.front.now.entries in
    let k = c.loop-k.k in
    let n = c.loop-k.number in
    let e = c.read-entry.result.now in
    let t = tree_of c.args.term.now in
    let one : c.births-number.result ≤ 1 = c.births-number.ensures.few in
    let few : n ≤ k = c.loop-k.invariant.few in
    let none : FindsNothing t (rules_of (living es n (e ∷ []))) = subst (λ z. FindsNothing t (rules_of (living z n (e ∷ [])))) (sym c.self.view_is) (c.entry_matches.ensures.no c.if-entry_matches.false) in
    record {
      few = omega arith;
      ahead = rw c.births-number.ensures.value (ahead_on t (rules_of (live es)) (rules_of (living es n (drop k es))) (rules_of (living es n (e ∷ []))) (rules_of (living es (n + length (born (e ∷ []))) (drop (k + 1) es))) [] [] [] (rules_at es es k n e c.read-entry.ensures) refl none c.loop-k.invariant.ahead);
    }

pub returns-clause-no : goal.returns-clause-no
returns-clause-no c h =
    let es = c.self.inside.front.now.entries in
    let past : length es ≤ c.loop-k.k = omega (arith, c.loop-k-test.false, c.len-k-end.ensures.value) in
    rw (← c.self.view_is) (all_found (tree_of c.args.term.now) (rules_of (live es)) (rules_of (living es c.loop-k.number (drop c.loop-k.k es))) [] (rules_end es es c.loop-k.k c.loop-k.number past) c.loop-k.invariant.ahead)
