-- The changes of a state that the commit of a meeting puts together.
use Rattle.std.proofs.Common.{◌≡◌, ℕ, ◌++◌, List, refl, ap, ◌∙◌, map}
use Rattle.uc_pair.specs.declared.formed.Formed.{Formed}
use Rattle.uc_shelf.specs.declared.entry.Entry.{Entry}
use Rattle.uc_machine.specs.declared.state.Meeting.{Meeting}
use Rattle.uc_machine.specs.declared.state.Meeting.TheVariants.{Met}
use Rattle.uc_machine.specs.Lists.{change}
use Rattle.uc_machine.specs.State.{State, Pair, Target}
use Rattle.uc_machine.specs.Effects.{is_met, pair_by}
use Rattle.uc_book.specs.declared.parts.Parts.{Parts}
use Rattle.uc_rows.specs.RowViews.{FactsView, PairsView}
use Rattle.uc_book.specs.Parts.{state_of}
use Rattle.uc_rows.specs.Deaths.{deaths_by, revived, met_by, woken_by, visited}

same_state : (s : State) (es es2 : List Entry) (ms ms2 : List Meeting) (ps ps2 : List Pair) (d d2 : ℕ) (gs gs2 : List Target) → es ≡ es2 → ms ≡ ms2 → ps ≡ ps2 → d ≡ d2 → gs ≡ gs2
    → (let u : State = record s { entries = es; meetings = ms; pairs = ps; draws = d; goals = gs } in u) ≡ record s { entries = es2; meetings = ms2; pairs = ps2; draws = d2; goals = gs2 }
same_state s es es2 ms ms2 ps ps2 d d2 gs gs2 a b c e f = cc

-- a meeting is Met
pub settled_state : (p : Parts) (settled : FactsView) (i : ℕ) → settled ≡ record p.facts { meetings = change (λ m. Met) p.facts.meetings i } → (let q : Parts = record p { facts = settled } in state_of q) ≡ is_met i (state_of p)
settled_state p settled i e = ap (λ (v : FactsView). (let q : Parts = record p { facts = v } in state_of q)) e

-- there is room for more pairs
pub reserved_state : (p : Parts) (pairs : PairsView) → pairs.pairs ≡ p.pairs.pairs → pairs.draws ≡ p.pairs.draws → (let q : Parts = record p { pairs = pairs } in state_of q) ≡ state_of p
reserved_state p pairs a b = same_state (state_of p) p.facts.front.entries p.facts.front.entries p.facts.meetings p.facts.meetings pairs.pairs p.pairs.pairs pairs.draws p.pairs.draws p.goals p.goals refl refl a b refl

-- pairs are changed, and no draw is counted
pub turned_state : (p : Parts) (pairs : PairsView) (ps : List Pair) → pairs.pairs ≡ ps → pairs.draws ≡ p.pairs.draws → (let q : Parts = record p { pairs = pairs } in state_of q) ≡ record (state_of p) { pairs = ps }
turned_state p pairs ps a b = same_state (state_of p) p.facts.front.entries p.facts.front.entries p.facts.meetings p.facts.meetings pairs.pairs ps pairs.draws p.pairs.draws p.goals p.goals refl refl a b refl

-- the meeting is Met, the dead get pairs of their own sides, the overlaps theirs, the dead die, and goals wake
pub taken_state : (p : Parts) (settled facts : FactsView) (one two : PairsView) (goals : List Target) (i killer : ℕ) (js : List ℕ) (fs : List Formed) → settled ≡ record p.facts { meetings = change (λ m. Met) p.facts.meetings i }
    → one.pairs ≡ p.pairs.pairs ++ map (revived settled.front.entries) js → one.draws ≡ p.pairs.draws
    → two.pairs ≡ one.pairs ++ map (pair_by (settled.front.entries ++ deaths_by killer js)) fs → two.draws ≡ one.draws
    → facts.front.entries ≡ p.facts.front.entries ++ deaths_by killer js → facts.meetings ≡ met_by js settled.meetings → goals ≡ woken_by js p.goals
    → (let q : Parts = record p { facts = facts; pairs = two; goals = goals } in state_of q) ≡ visited killer js fs (is_met i (state_of p))
taken_state p settled facts one two goals i killer js fs a b c d e f g h =
    let es = p.facts.front.entries in
    let x : settled.front.entries ≡ es = ap (λ (v : FactsView). v.front.entries) a in
    let m : facts.meetings ≡ met_by js (change (λ k. Met) p.facts.meetings i) = g ∙ ap (λ (v : FactsView). met_by js v.meetings) a in
    let r : one.pairs ≡ p.pairs.pairs ++ map (revived es) js = b ∙ ap (λ z. p.pairs.pairs ++ map (revived z) js) x in
    let q : two.pairs ≡ (p.pairs.pairs ++ map (revived es) js) ++ map (pair_by (es ++ deaths_by killer js)) fs
    = d ∙ ap (λ z. z ++ map (pair_by (settled.front.entries ++ deaths_by killer js)) fs) r ∙ ap (λ z. (p.pairs.pairs ++ map (revived es) js) ++ map (pair_by (z ++ deaths_by killer js)) fs) x in
    same_state (state_of p) facts.front.entries (es ++ deaths_by killer js) facts.meetings (met_by js (change (λ k. Met) p.facts.meetings i)) two.pairs ((p.pairs.pairs ++ map (revived es) js) ++ map (pair_by (es ++ deaths_by killer js)) fs) two.draws p.pairs.draws goals (woken_by js p.goals)
    f m q (e ∙ c) h
