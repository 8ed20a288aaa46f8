-- A fact and the others that live, one by one.
use Rattle.std.proofs.Common.{◌≡◌, ◌≢◌, ℕ, ◌==◌, ◌+◌, ◌<◌, ◌≤◌, true, List, [], ◌∷◌, ◌++◌, length, map, drop, get_or, Option, Some, None, refl, sym, ap, ◌∙◌, subst, arith, append_assoc, append-nil, ◌⊎◌, inl, inr}
use Rattle.std.proofs.lemmas.Bool.{cases_Bool, eqb-true, eq-eqb}
use Rattle.std.proofs.lemmas.List.{drop_more}
use Rattle.std.proofs.Math.ListN.{drop_of_length-le}
use Rattle.uc_term.specs.declared.equation.Equation.{Equation}
use Rattle.uc_order.specs.Laws.{Meaning}
use Rattle.uc_fact.specs.Live.{Live, RiseFrom, AreRising, fact_at}
use Rattle.uc_pair.specs.declared.formed.Formed.{Formed}
use Rattle.uc_pair.specs.Listing.{AreOverlaps}
use Rattle.uc_shelf.specs.declared.entry.Entry.{Entry}
use Rattle.uc_shelf.specs.Entries.{live}
use Rattle.uc_machine.specs.Results.{Reduces, IsStaleBy, IsFresh, AreKills, no_facts, kills_it, spares_it, is_no_earlier, AreMeetings, with_itself, with_earlier, not_with_later}
use Rattle.uc_shelf.specs.declared.view.Lent.{Lent}
use Rattle.uc_shelf.specs.Lending.{lent_of}
use Rattle.uc_task.specs.Meeting.{IsReducedByIt, FirstReducer, none_left, it_reduces, later_one, KillsOne, is_killed, is_spared, not_earlier, MeetsOne, is_met, no_earlier, Adds}

-- THE FACT OF A NUMBER

at_front : (j : Live) (js : List Live) → fact_at (j ∷ js) j.number ≡ Some j.equation
at_front j js = let e : (j.number == j.number) ≡ true = eq-eqb j.number j.number refl in rw e refl

split_at : (j : Live) (js : List Live) (k : ℕ) (e : Equation) → fact_at (j ∷ js) k ≡ Some e → ((j.number ≡ k) × (j.equation ≡ e)) ⊎ (fact_at js k ≡ Some e)
split_at j js k e h = elim (cases_Bool (j.number == k)) as (λ _. ((j.number ≡ k) × (j.equation ≡ e)) ⊎ (fact_at js k ≡ Some e)) [
  | inl b ↦ (let s : Some j.equation ≡ Some e = rw b at h in inl (eqb-true j.number k b, cc))
  | inr b ↦ inr (rw b at h)
]

at_least : (n : ℕ) (js : List Live) (k : ℕ) (e : Equation) → RiseFrom n js → fact_at js k ≡ Some e → n ≤ k
at_least n [] k e r h = absurd cc
at_least n (j ∷ js) k e r h = elim (split_at j js k e h) as (λ _. n ≤ k) [
  | inl s ↦ (let a = r.0 in let b = s.0 in omega arith)
  | inr s ↦ (let a = r.0 in let b = at_least (j.number + 1) js k e r.1 s in omega (arith, a, b))
]

at_later : (j : Live) (js : List Live) (k : ℕ) (e : Equation) → RiseFrom (j.number + 1) js → fact_at js k ≡ Some e → fact_at (j ∷ js) k ≡ Some e
at_later j js k e r h = elim (cases_Bool (j.number == k)) as (λ _. fact_at (j ∷ js) k ≡ Some e) [
  | inl b ↦ (let s = eqb-true j.number k b in let l = at_least (j.number + 1) js k e r h in absurd (omega (arith, s, l)))
  | inr b ↦ rw b h
]

module _ (m : Meaning) (i : ℕ) (f : Equation) where
  -- THE FIRST THAT REDUCES IT

  -- the fact of the number is another one in the list, and reduces f
  record Hit (js : List Live) (k : ℕ) : Type 0 where
    equation : Equation
    at : fact_at js k ≡ Some equation
    other : k ≢ i
    reduces : Reduces m equation f

  not_hit : (j : Live) (js : List Live) (k : ℕ) → (IsReducedByIt m i f j → ⊥) → Hit (j ∷ js) k → Hit js k
  not_hit j js k n h = elim (split_at j js k h.equation h.at) as (λ _. Hit js k) [
    | inl s ↦ absurd (n (record { other = subst (λ x. x ≢ i) (sym s.0) h.other; reduces = subst (λ e. Reduces m e f) (sym s.1) h.reduces }))
    | inr s ↦ record { equation = h.equation; at = s; other = h.other; reduces = h.reduces }
  ]

  first_hit : (n : ℕ) (js : List Live) (found : Option ℕ) (k : ℕ) → RiseFrom n js → found ≡ Some k → FirstReducer m i f js found → Hit js k × ((x : ℕ) → Hit js x → k ≤ x)
  first_hit n _ _ k r e none_left = absurd cc
  first_hit n _ _ k r e (it_reduces {j = j} {js = js} red) =
      let s : j.number ≡ k = cc in
      let here : Hit (j ∷ js) j.number = record { equation = j.equation; at = at_front j js; other = red.other; reduces = red.reduces } in
      let rises : RiseFrom j.number (j ∷ js) = (omega arith, r.1) in
      (subst (Hit (j ∷ js)) s here, λ x h. subst (λ y. y ≤ x) s (at_least j.number (j ∷ js) x h.equation rises h.at))
  first_hit n _ found k r e (later_one {j = j} {js = js} none rest) =
      let later = first_hit (j.number + 1) js found k r.1 e rest in
      let h = later.0 in (
        record { equation = h.equation; at = at_later j js k h.equation r.1 h.at; other = h.other; reduces = h.reduces },
        λ x g. later.1 x (not_hit j js x none g),
      )

  no_hit : (js : List Live) (found : Option ℕ) (k : ℕ) → found ≡ None → FirstReducer m i f js found → Hit js k → ⊥
  no_hit _ _ k e none_left h = (let a = h.at in cc)
  no_hit _ _ k e (it_reduces red) h = cc
  no_hit _ found k e (later_one {j = j} {js = js} none rest) h = no_hit js found k e rest (not_hit j js k none h)

  pub stale_found : (entries : List Entry) (found : Option ℕ) (k : ℕ) → AreRising (live entries) → found ≡ Some k → FirstReducer m i f (live entries) found → IsStaleBy m entries i f k
  stale_found entries found k r e first =
      let both = first_hit 0 (live entries) found k r e first in
      let h = both.0 in
      record {
        reduced = record { other = h.other; equation = h.equation; equation_is = h.at; reduces = h.reduces };
        least = λ j g. both.1 j (record { equation = g.equation; at = g.equation_is; other = g.other; reduces = g.reduces });
      }

  pub none_stale : (entries : List Entry) (found : Option ℕ) → found ≡ None → FirstReducer m i f (live entries) found → IsFresh m entries i f
  none_stale entries found e first k g = no_hit (live entries) found k e first (record { equation = g.equation; at = g.equation_is; other = g.other; reduces = g.reduces })

  -- ONE AFTER ANOTHER

  kills_on : (entries : List Entry) (j : Live) (js : List Live) (more ks : List ℕ) → KillsOne m i f j more → AreKills m entries i f js ks → AreKills m entries i f (j ∷ js) (more ++ ks)
  kills_on entries j js _ ks (is_killed h r) k = kills_it h r k
  kills_on entries j js _ ks (is_spared h n) k = spares_it h n k
  kills_on entries j js _ ks (not_earlier h) k = is_no_earlier h k

  meets_on : (entries : List Entry) (j : Live) (js : List Live) (more fs : List Formed) → MeetsOne m i f j more → AreMeetings m entries i f js fs → AreMeetings m entries i f (j ∷ js) (more ++ fs)
  meets_on entries j js _ fs (is_met {inside = inside} {round = round} h a b) k = subst (AreMeetings m entries i f (j ∷ js)) (sym (append_assoc inside round fs)) (with_earlier h a b k)
  meets_on entries j js _ fs (no_earlier h) k = not_with_later h k

  next_live : (facts : List Lent) (x : ℕ) (fact : Lent) → x < length facts → fact ≡ get_or facts x fact → map lent_of (drop x facts) ≡ lent_of fact ∷ map lent_of (drop (x + 1) facts)
  next_live facts x fact h e = ap (map lent_of) (drop_more facts x fact h ∙ ap (λ y. y ∷ drop (x + 1) facts) (sym e))

  no_live : (facts : List Lent) (x : ℕ) → length facts ≤ x → map lent_of (drop x facts) ≡ []
  no_live facts x h = ap (map lent_of) (drop_of_length-le facts h)

  -- whatever the facts from x on come to, with what is listed it is what all come to
  pub record KillsSoFar (facts : List Lent) (x : ℕ) (list : List ℕ) : Type 0 where
    pub goes : (entries : List Entry) (rest : List ℕ) → AreKills m entries i f (map lent_of (drop x facts)) rest → AreKills m entries i f (map lent_of facts) (list ++ rest)

  pub kills_start : (facts : List Lent) (list : List ℕ) → list ≡ [] → KillsSoFar facts 0 list
  kills_start facts list e = record { goes = λ entries rest k. subst (λ l. AreKills m entries i f (map lent_of facts) (l ++ rest)) (sym e) k }

  pub kills_next : (facts : List Lent) (x : ℕ) (fact : Lent) (list new : List ℕ) → x < length facts → fact ≡ get_or facts x fact → Adds (KillsOne m i f (lent_of fact)) list new → KillsSoFar facts x list → KillsSoFar facts (x + 1) new
  kills_next facts x fact list new h e a so = record {
    goes = λ entries rest k.
        let here = kills_on entries (lent_of fact) (map lent_of (drop (x + 1) facts)) a.more rest a.holds k in
        let all = so.goes entries (a.more ++ rest) (subst (λ js. AreKills m entries i f js (a.more ++ rest)) (sym (next_live facts x fact h e)) here) in
        subst (AreKills m entries i f (map lent_of facts)) (sym (append_assoc list a.more rest) ∙ ap (λ l. l ++ rest) (sym a.new_is)) all;
  }

  pub kills_end : (facts : List Lent) (x : ℕ) (list : List ℕ) → length facts ≤ x → KillsSoFar facts x list → (entries : List Entry) → AreKills m entries i f (map lent_of facts) list
  kills_end facts x list h so entries =
      subst (AreKills m entries i f (map lent_of facts)) (append-nil list) (so.goes entries [] (subst (λ js. AreKills m entries i f js []) (sym (no_live facts x h)) no_facts))

  pub record MeetsSoFar (facts : List Lent) (x : ℕ) (list : List Formed) : Type 0 where
    pub goes : (entries : List Entry) (rest : List Formed) → AreMeetings m entries i f (map lent_of (drop x facts)) rest → AreMeetings m entries i f (map lent_of facts) (list ++ rest)

  pub meets_start : (facts : List Lent) (list : List Formed) → list ≡ [] → MeetsSoFar facts 0 list
  meets_start facts list e = record { goes = λ entries rest k. subst (λ l. AreMeetings m entries i f (map lent_of facts) (l ++ rest)) (sym e) k }

  pub meets_next : (facts : List Lent) (x : ℕ) (fact : Lent) (list new : List Formed) → x < length facts → fact ≡ get_or facts x fact → Adds (MeetsOne m i f (lent_of fact)) list new → MeetsSoFar facts x list → MeetsSoFar facts (x + 1) new
  meets_next facts x fact list new h e a so = record {
    goes = λ entries rest k.
        let here = meets_on entries (lent_of fact) (map lent_of (drop (x + 1) facts)) a.more rest a.holds k in
        let all = so.goes entries (a.more ++ rest) (subst (λ js. AreMeetings m entries i f js (a.more ++ rest)) (sym (next_live facts x fact h e)) here) in
        subst (AreMeetings m entries i f (map lent_of facts)) (sym (append_assoc list a.more rest) ∙ ap (λ l. l ++ rest) (sym a.new_is)) all;
  }

  pub meets_end : (facts : List Lent) (x : ℕ) (list own all : List Formed) → length facts ≤ x → AreOverlaps m.greater i f i f own → all ≡ list ++ own → MeetsSoFar facts x list → (entries : List Entry) → AreMeetings m entries i f (map lent_of facts) all
  meets_end facts x list own all h o e so entries =
      subst (AreMeetings m entries i f (map lent_of facts)) (sym e) (so.goes entries own (subst (λ js. AreMeetings m entries i f js own) (sym (no_live facts x h)) (with_itself o)))

  -- whatever is first from x on is first of all
  pub record NoneSoFar (facts : List Lent) (x : ℕ) : Type 0 where
    pub goes : (found : Option ℕ) → FirstReducer m i f (map lent_of (drop x facts)) found → FirstReducer m i f (map lent_of facts) found

  pub none_start : (facts : List Lent) → NoneSoFar facts 0
  none_start facts = record { goes = λ found r. r }

  pub none_next : (facts : List Lent) (x : ℕ) (fact : Lent) → x < length facts → fact ≡ get_or facts x fact → (IsReducedByIt m i f (lent_of fact) → ⊥) → NoneSoFar facts x → NoneSoFar facts (x + 1)
  none_next facts x fact h e n so = record {
    goes = λ found r. so.goes found (subst (λ js. FirstReducer m i f js found) (sym (next_live facts x fact h e)) (later_one n r));
  }

  pub first_here : (facts : List Lent) (x : ℕ) (fact : Lent) → x < length facts → fact ≡ get_or facts x fact → IsReducedByIt m i f (lent_of fact) → NoneSoFar facts x → FirstReducer m i f (map lent_of facts) (Some fact.number)
  first_here facts x fact h e r so = so.goes (Some fact.number) (subst (λ js. FirstReducer m i f js (Some fact.number)) (sym (next_live facts x fact h e)) (it_reduces r))

  pub none_end : (facts : List Lent) (x : ℕ) → length facts ≤ x → NoneSoFar facts x → FirstReducer m i f (map lent_of facts) None
  none_end facts x h so = so.goes None (subst (λ js. FirstReducer m i f js None) (sym (no_live facts x h)) none_left)
