-- What a right result tells by its job alone.
use Rattle.std.proofs.Common.{ℕ, suc, ◌+◌, ◌-◌, ◌≤◌, List, [], ◌∷◌, length, arith}
use Rattle.uc_term.specs.declared.node.Sym.{Sym}
use Rattle.uc_term.specs.declared.equation.Equation.{Equation}
use Rattle.uc_term.specs.Tree.{Tree}
use Rattle.uc_order.specs.Laws.{Meaning}
use Rattle.uc_fact.specs.declared.chain.Step.{Step}
use Rattle.uc_fact.specs.declared.fact.Stop.{Stop}
use Rattle.uc_fact.specs.Live.{Live, RiseFrom, equation_of}
use Rattle.uc_rewrite.specs.declared.normal.Normal.{Normal}
use Rattle.uc_rewrite.specs.Normalising.{Normalises, is_full, is_spent, is_large, goes_on}
use Rattle.uc_shelf.specs.declared.entry.Entry.{Entry}
use Rattle.uc_shelf.specs.Entries.{live}
use Rattle.uc_shelf.specs.Rising.{live_rise}
use Rattle.uc_machine.specs.declared.task.Job.{Job}
use Rattle.uc_machine.specs.declared.task.Finding.{Finding}
use Rattle.uc_machine.specs.Results.{IsResult, goal_comes_to, more_comes_to, pair_is_joined, pair_is_kept, fact_is_stale, fact_meets, NormaliseBoth, AreKills, no_facts, kills_it, spares_it, is_no_earlier}
use Rattle.uc_book.specs.Committing.{IsFor}
use Rattle.uc_rows.specs.Rising.{AreRising, AreBelow}

few_steps : (Greater : Tree → Tree → Type 0) (least : Sym) (live : List Live) (limit : ℕ) (t : Tree) (steps : List Step) (end : Tree) (stop : Stop) → Normalises Greater least live limit t steps end stop → length steps ≤ limit
few_steps G least live limit t _ _ _ (is_full n) = omega arith
few_steps G least live _ t _ _ _ (is_spent f) = omega arith
few_steps G least live _ t _ _ _ (is_large f h) = omega arith
few_steps G least live (suc limit) t _ end stop (goes_on {v = v} {steps = rest} f h n) = let i : length rest ≤ limit = few_steps G least live limit v rest end stop n in omega arith

rise_less : (a b : ℕ) (ks : List ℕ) → a ≤ b → AreRising b ks → AreRising a ks
rise_less a b [] h q = tt
rise_less a b (k ∷ ks) h q = (let low : b ≤ k = q.0 in omega arith, q.1)

kills_rise : (m : Meaning) (es : List Entry) (i : ℕ) (e : Equation) (n : ℕ) (js : List Live) (ks : List ℕ) → RiseFrom n js → AreKills m es i e js ks → AreRising n ks
kills_rise m es i e n [] _ h no_facts = tt
kills_rise m es i e n (j ∷ js) _ h (kills_it {ks = ks} l r a) = (h.0, kills_rise m es i e (j.number + 1) js ks h.1 a)
kills_rise m es i e n (j ∷ js) ks h (spares_it l r a) = (let low : n ≤ j.number = h.0 in rise_less n (j.number + 1) ks (omega arith) (kills_rise m es i e (j.number + 1) js ks h.1 a))
kills_rise m es i e n (j ∷ js) ks h (is_no_earlier l a) = (let low : n ≤ j.number = h.0 in rise_less n (j.number + 1) ks (omega arith) (kills_rise m es i e (j.number + 1) js ks h.1 a))

kills_below : (m : Meaning) (es : List Entry) (i : ℕ) (e : Equation) (js : List Live) (ks : List ℕ) → AreKills m es i e js ks → AreBelow i ks
kills_below m es i e [] _ no_facts = tt
kills_below m es i e (j ∷ js) _ (kills_it {ks = ks} l r a) = (l, kills_below m es i e js ks a)
kills_below m es i e (j ∷ js) ks (spares_it l r a) = kills_below m es i e js ks a
kills_below m es i e (j ∷ js) ks (is_no_earlier l a) = kills_below m es i e js ks a

both_few : (m : Meaning) (es : List Entry) (l r : Tree) (left right : Normal) → NormaliseBoth m es l r left right → length left.chain.steps + length right.chain.steps ≤ 4096
both_few m es l r left right b =
    let a : length left.chain.steps ≤ 4096 = few_steps m.greater m.least (live es) 4096 l left.chain.steps left.term left.stop b.left_is.normalises in
    let c : length right.chain.steps ≤ 4096 - length left.chain.steps = few_steps m.greater m.least (live es) (4096 - length left.chain.steps) r right.chain.steps right.term right.stop b.right_is.normalises in
    omega arith

pub result_for : (m : Meaning) (axioms : List Equation) (es : List Entry) (j : Job) (f : Finding) → IsResult m axioms es j f → IsFor j f
result_for m axioms es _ _ (goal_comes_to {l = l} {r = r} {left = left} {right = right} b) = both_few m es l r left right b
result_for m axioms es _ _ (more_comes_to {l = l} {r = r} {left = left} {right = right} b) = both_few m es l r left right b
result_for m axioms es _ _ (pair_is_joined t e) = tt
result_for m axioms es _ _ (pair_is_kept t n g) = tt
result_for m axioms es _ _ (fact_is_stale at s) = tt
result_for m axioms es _ _ (fact_meets {i = i} {f = f} {ks = ks} {fs = fs} at fresh k o) = (kills_rise m es i (equation_of f) 0 (live es) ks (live_rise es) k, kills_below m es i (equation_of f) (live es) ks k)
