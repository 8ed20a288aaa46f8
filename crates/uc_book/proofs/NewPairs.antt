-- Pairs that are new, and how many of them wait.
use Rattle.std.proofs.Common.{◌≡◌, ℕ, suc, ◌+◌, ◌<◌, List, [], ◌∷◌, ◌++◌, length, get_or, take, Bool, cond, refl, ap, sym, ◌∙◌, arith, inl, inr, append_assoc, map}
use Rattle.std.specs.Prelude.{count_by}
use Rattle.std.proofs.lemmas.Bool.{cases_Bool}
use Rattle.std.proofs.lemmas.List.Sums.{sum_by-cons, sum_by-append}
use Rattle.uc_pair.specs.declared.formed.Formed.{Formed}
use Rattle.uc_fact.specs.declared.fact.Origin.TheVariants.{Overlap as OfOverlap}
use Rattle.uc_fact.specs.declared.fact.Overlap.{Overlap}
use Rattle.uc_ledger.specs.declared.ledger.State.{State as Condition}
use Rattle.uc_shelf.specs.declared.entry.Entry.{Entry}
use Rattle.uc_shelf.specs.declared.entry.Entry.TheVariants.{Born, Dies}
use Rattle.uc_machine.specs.State.{State, Pair, dead_of, is_waiting, queue_from, waiting}
use Rattle.uc_machine.specs.Effects.{pair_by, weight_by, condition_by, forms}
use Rattle.uc_machine.specs.Commits.{deaths, newly_waiting}
use Rattle.uc_rows.specs.Deaths.{deaths_by, revived, all_dead}
use Rattle.uc_book.proofs.Prefixes.{map_more, count_more}

abbrev pub waits : Pair → Bool
waits p = is_waiting p.condition

pub queue_count : (n : ℕ) (ps : List Pair) → length (queue_from n ps) ≡ count_by waits ps
queue_count n [] = refl
queue_count n (p ∷ ps) =
    let c : count_by waits (p ∷ ps) ≡ cond (waits p) 1 0 + count_by waits ps = sum_by-cons (λ (q : Pair). cond (waits q) 1 0) p ps in
    let h : length (queue_from (suc n) ps) ≡ count_by waits ps = queue_count (suc n) ps in
    elim (cases_Bool (waits p)) as (λ _. length (queue_from n (p ∷ ps)) ≡ count_by waits (p ∷ ps)) [
      | inl e ↦ rw (c, e) (omega (arith, h))
      | inr e ↦ rw (c, e) (omega (arith, h))
    ]

count-map : (f : Formed → Pair) (fs : List Formed) → count_by waits (map f fs) ≡ count_by (λ g. waits (f g)) fs
count-map f [] = refl
count-map f (g ∷ fs) =
    sum_by-cons (λ (q : Pair). cond (waits q) 1 0) (f g) (map f fs)
    ∙ ap (λ n. cond (waits (f g)) 1 0 + n) (count-map f fs)
    ∙ sym (sum_by-cons (λ (h : Formed). cond (waits (f h)) 1 0) g fs)

count-revived : (es : List Entry) (js : List ℕ) → count_by waits (map (revived es) js) ≡ length js
count-revived es [] = refl
count-revived es (j ∷ js) =
    let c : count_by waits (map (revived es) (j ∷ js)) ≡ 1 + count_by waits (map (revived es) js) = sum_by-cons (λ (q : Pair). cond (waits q) 1 0) (revived es j) (map (revived es) js) in
    let h : count_by waits (map (revived es) js) ≡ length js = count-revived es js in omega (arith, c, h)

-- the pairs that wait, with those of the facts that die and the overlaps that newly wait
pub waiting_more : (killer : ℕ) (js : List ℕ) (fs : List Formed) (s : State) → waiting (forms fs (all_dead killer js s)) ≡ waiting s + (length js + newly_waiting fs (all_dead killer js s))
waiting_more killer js fs s =
    let es = s.entries ++ deaths_by killer js in
    let f = pair_by es in
    let one : count_by waits ((s.pairs ++ map (revived s.entries) js) ++ map f fs) ≡ count_by waits (s.pairs ++ map (revived s.entries) js) + count_by waits (map f fs)
    = sum_by-append (λ (q : Pair). cond (waits q) 1 0) (s.pairs ++ map (revived s.entries) js) (map f fs) in
    let two : count_by waits (s.pairs ++ map (revived s.entries) js) ≡ count_by waits s.pairs + count_by waits (map (revived s.entries) js)
    = sum_by-append (λ (q : Pair). cond (waits q) 1 0) s.pairs (map (revived s.entries) js) in
    let new : length (queue_from 0 ((s.pairs ++ map (revived s.entries) js) ++ map f fs)) ≡ count_by waits ((s.pairs ++ map (revived s.entries) js) ++ map f fs) = queue_count 0 ((s.pairs ++ map (revived s.entries) js) ++ map f fs) in
    let old : length (queue_from 0 s.pairs) ≡ count_by waits s.pairs = queue_count 0 s.pairs in
    let r : count_by waits (map (revived s.entries) js) ≡ length js = count-revived s.entries js in
    let g : count_by waits (map f fs) ≡ newly_waiting fs (all_dead killer js s) = count-map f fs in
    omega (arith, one, two, new, old, r, g)

dead_all : (es : List Entry) (killer : ℕ) (js : List ℕ) → length (dead_of (es ++ deaths_by killer js)) ≡ length (dead_of es) + length js
dead_all [] killer [] = refl
dead_all [] killer (j ∷ js) = let h : length (dead_of ([] ++ deaths_by killer js)) ≡ length (dead_of []) + length js = dead_all [] killer js in omega (arith, h)
dead_all (Born f ∷ es) killer js = dead_all es killer js
dead_all (Dies f k ∷ es) killer js = let h : length (dead_of (es ++ deaths_by killer js)) ≡ length (dead_of es) + length js = dead_all es killer js in omega (arith, h)

pub deaths_more : (killer : ℕ) (js : List ℕ) (fs : List Formed) (s : State) → deaths (forms fs (all_dead killer js s)) ≡ deaths s + length js
deaths_more killer js fs s = dead_all s.entries killer js

-- one overlap further

pub newly_more : (es : List Entry) (fs : List Formed) (k : ℕ) (d : Formed) (b : Bool) (n : ℕ) → k < length fs → b ≡ is_waiting (condition_by es (get_or fs k d).overlap (get_or fs k d).size) → n ≡ count_by (λ (f : Formed). is_waiting (pair_by es f).condition) (take k fs)
    → n + cond {A = ℕ} b 1 0 ≡ count_by (λ (f : Formed). is_waiting (pair_by es f).condition) (take (k + 1) fs)
newly_more es fs k d b n l e h =
    ap (λ m. m + cond {A = ℕ} b 1 0) h ∙ ap (λ v. count_by (λ (f : Formed). is_waiting (pair_by es f).condition) (take k fs) + cond {A = ℕ} v 1 0) e
    ∙ sym (count_more (λ (f : Formed). is_waiting (pair_by es f).condition) fs k d l)

abbrev pair_with : Overlap → ℕ → Condition → Pair
pair_with o w c = record { origin = OfOverlap o; weight = w; condition = c }

pub formed_more : (es : List Entry) (fs : List Formed) (k : ℕ) (d : Formed) (w : ℕ) (c : Condition) (start before now : List Pair) → k < length fs → w ≡ weight_by (get_or fs k d).size → c ≡ condition_by es (get_or fs k d).overlap (get_or fs k d).size
    → before ≡ start ++ map (pair_by es) (take k fs) → now ≡ before ++ record { origin = OfOverlap (get_or fs k d).overlap; weight = w; condition = c } ∷ [] → now ≡ start ++ map (pair_by es) (take (k + 1) fs)
formed_more es fs k d w c start before now l a b e h =
    let o = (get_or fs k d).overlap in
    let same : pair_with o w c ≡ pair_by es (get_or fs k d) = ap (λ v. pair_with o v c) a ∙ ap (pair_with o (weight_by (get_or fs k d).size)) b in
    let more : map (pair_by es) (take k fs) ++ pair_with o w c ∷ [] ≡ map (pair_by es) (take (k + 1) fs) = ap (λ q. map (pair_by es) (take k fs) ++ q ∷ []) same ∙ sym (map_more (pair_by es) fs k d l) in
    h ∙ ap (λ z. z ++ pair_with o w c ∷ []) e ∙ append_assoc start (map (pair_by es) (take k fs)) (pair_with o w c ∷ []) ∙ ap (λ z. start ++ z) more
