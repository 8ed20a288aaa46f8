-- Facts that die one after the other, taken together.
use Rattle.std.proofs.Common.{◌≡◌, ℕ, List, [], ◌∷◌, ◌++◌, Bool, true, false, ◌==◌, refl, ap, sym, ◌∙◌, inl, inr, append_assoc, map, slice_get}
use Rattle.std.specs.Prelude.{◌||◌}
use Rattle.std.proofs.lemmas.Bool.{cases_Bool, ne_eqb}
use Rattle.std.proofs.lemmas.List.{append-nil}
use Rattle.uc_fact.specs.declared.fact.Origin.TheVariants.{Revived}
use Rattle.uc_ledger.specs.declared.ledger.State.TheVariants.{Waiting}
use Rattle.uc_shelf.specs.declared.entry.Entry.{Entry}
use Rattle.uc_shelf.specs.declared.entry.Entry.TheVariants.{Born, Dies}
use Rattle.uc_shelf.specs.Entries.{is_dead}
use Rattle.uc_machine.specs.declared.state.Stage.{Stage}
use Rattle.uc_machine.specs.declared.state.Stage.TheVariants.{Due, Busy, Continued, Settled, Stuck}
use Rattle.uc_machine.specs.Lists.{each}
use Rattle.uc_machine.specs.State.{State, Target}
use Rattle.uc_machine.specs.Effects.{wakes, wakes_stage, kills, dies, sides_weight}
use Rattle.uc_rows.specs.Deaths.{alive_of, deaths_by, revived, met_by, woken_by, with_facts, all_dead}
use Rattle.uc_machine.proofs.Kept.{NotIn, Distinct}
use Rattle.uc_machine.proofs.Blocks.{born-dies}

wakes_twice : (c : Stage) → wakes_stage (wakes_stage c) ≡ wakes_stage c
wakes_twice Due = refl
wakes_twice Busy = refl
wakes_twice Continued = refl
wakes_twice Settled = refl
wakes_twice Stuck = refl

map_wakes : (gs : List Target) → map wakes (map wakes gs) ≡ map wakes gs
map_wakes [] = refl
map_wakes (g ∷ gs) =
    let e : wakes (wakes g) ≡ wakes g = ap (λ c. record g { stage = c }) (wakes_twice g.stage) in
    rw (e, map_wakes gs) refl

woken_on : (j : ℕ) (js : List ℕ) (gs : List Target) → woken_by js (map wakes gs) ≡ woken_by (j ∷ js) gs
woken_on j [] gs = refl
woken_on j (i ∷ js) gs = map_wakes gs

revived_on : (killer j : ℕ) (es : List Entry) (js : List ℕ) → map (revived (es ++ Dies j killer ∷ [])) js ≡ map (revived es) js
revived_on killer j es js = ap (λ fs. map (λ (i : ℕ). record { origin = Revived i; weight = sides_weight (slice_get fs i); condition = Waiting }) js) (born-dies es j killer)

pub all_die : (killer : ℕ) (js : List ℕ) (s : State) → each (dies killer) js s ≡ all_dead killer js s
all_die killer [] s =
    let e : s.entries ++ [] ≡ s.entries = append-nil s.entries in
    let p : s.pairs ++ [] ≡ s.pairs = append-nil s.pairs in
    rw (e, p) refl
all_die killer (j ∷ js) s =
    let e : (s.entries ++ Dies j killer ∷ []) ++ deaths_by killer js ≡ s.entries ++ deaths_by killer (j ∷ js) = append_assoc s.entries (Dies j killer ∷ []) (deaths_by killer js) in
    let p : (s.pairs ++ revived s.entries j ∷ []) ++ map (revived (s.entries ++ Dies j killer ∷ [])) js ≡ s.pairs ++ map (revived s.entries) (j ∷ js)
    = ap (λ z. (s.pairs ++ revived s.entries j ∷ []) ++ z) (revived_on killer j s.entries js) ∙ append_assoc s.pairs (revived s.entries j ∷ []) (map (revived s.entries) js) in
    let g : woken_by js (map wakes s.goals) ≡ woken_by (j ∷ js) s.goals = woken_on j js s.goals in
    all_die killer js (dies killer j s)
    ∙ ap (λ z. with_facts s z (met_by (j ∷ js) s.meetings) ((s.pairs ++ revived s.entries j ∷ []) ++ map (revived (s.entries ++ Dies j killer ∷ [])) js) (woken_by js (map wakes s.goals))) e
    ∙ ap (λ z. with_facts s (s.entries ++ deaths_by killer (j ∷ js)) (met_by (j ∷ js) s.meetings) z (woken_by js (map wakes s.goals))) p
    ∙ ap (λ z. with_facts s (s.entries ++ deaths_by killer (j ∷ js)) (met_by (j ∷ js) s.meetings) (s.pairs ++ map (revived s.entries) (j ∷ js)) z) g

or_or : (a b c : Bool) → a || (b || c) ≡ (a || b) || c
or_or true b c = refl
or_or false b c = refl

-- a fact is dead where it is so by the entries before or by those behind
pub dead_either : (es ds : List Entry) (n : ℕ) → is_dead (es ++ ds) n ≡ is_dead es n || is_dead ds n
dead_either [] ds n = refl
dead_either (Born f ∷ es) ds n = dead_either es ds n
dead_either (Dies f k ∷ es) ds n = ap (λ z. (f == n) || z) (dead_either es ds n) ∙ or_or (f == n) (is_dead es n) (is_dead ds n)

-- a fact's death is that of no other one
pub dead-dies : (es : List Entry) (killer j n : ℕ) → is_dead (es ++ Dies j killer ∷ []) n ≡ is_dead es n || (j == n)
dead-dies es killer j n = dead_either es (Dies j killer ∷ []) n ∙ ap (λ z. is_dead es n || z) (or-false (j == n))
  where
    or-false : (b : Bool) → b || false ≡ b
    or-false true = refl
    or-false false = refl

alive_on : (es : List Entry) (killer j : ℕ) (ks : List ℕ) → NotIn j ks → alive_of (es ++ Dies j killer ∷ []) ks ≡ alive_of es ks
alive_on es killer j [] n = refl
alive_on es killer j (k ∷ ks) n =
    let e : is_dead (es ++ Dies j killer ∷ []) k ≡ is_dead es k = dead-dies es killer j k ∙ ap (λ z. is_dead es k || z) (ne_eqb j k (λ q. n.0 (sym q))) ∙ or-none (is_dead es k) in
    rw (e, alive_on es killer j ks n.1) refl
  where
    or-none : (b : Bool) → b || false ≡ b
    or-none true = refl
    or-none false = refl

-- those that are dead don't die again, and each of the others dies once
pub kills_alive : (killer : ℕ) (ks : List ℕ) (s : State) → Distinct ks → each (kills killer) ks s ≡ each (dies killer) (alive_of s.entries ks) s
kills_alive killer [] s d = refl
kills_alive killer (k ∷ ks) s d = elim (cases_Bool (is_dead s.entries k)) as (λ _. each (kills killer) (k ∷ ks) s ≡ each (dies killer) (alive_of s.entries (k ∷ ks)) s) [
  | inl e ↦ rw e (kills_alive killer ks s d.1)
  | inr e ↦ rw e (kills_alive killer ks (dies killer k s) d.1 ∙ ap (λ js. each (dies killer) js (dies killer k s)) (alive_on s.entries killer k ks d.0))
]
