-- The commit of a visit, in the machine's words.
use Rattle.std.proofs.Common.{◌≡◌, ℕ, ◌+◌, ◌≤◌, List, [], ◌∷◌, true, false, refl, ap, sym, ◌∙◌, arith, subst}
use Rattle.std.specs.Prelude.{None}
use Rattle.std.proofs.lemmas.List.{append-nil}
use Rattle.uc_pair.specs.declared.formed.Formed.{Formed}
use Rattle.uc_shelf.specs.declared.entry.Entry.{Entry}
use Rattle.uc_shelf.specs.Entries.{is_dead}
use Rattle.uc_machine.specs.declared.event.Happening.TheVariants.{CommitMeet}
use Rattle.uc_machine.specs.declared.task.Job.TheVariants.{Meet}
use Rattle.uc_machine.specs.declared.task.Finding.TheVariants.{Stale, Met}
use Rattle.uc_machine.specs.Lists.{each}
use Rattle.uc_machine.specs.State.{Opening, State, Out, waiting}
use Rattle.uc_machine.specs.Effects.{accepts, is_met, dies, kills, forms, visits}
use Rattle.uc_machine.specs.Commits.{Commits, fact_is_stale, fact_is_dead, fact_meets, Meets, within_limit, past_limit, deaths, newly_waiting, stays}
use Rattle.uc_rows.specs.Rising.{AreRising}
use Rattle.uc_rows.specs.Deaths.{alive_of, all_dead, visited}
use Rattle.uc_rows.proofs.Deaths.{all_die, kills_alive}
use Rattle.uc_book.proofs.RisingNumbers.{rising_differ}

-- two effects that do the same to these states
meets_as : (o : Opening) (t : Out) (i n m : ℕ) (f g : State → State) (s u : State) → n ≡ m → f s ≡ g s
    → ((p d : ℕ) → f (is_met i (accepts t (CommitMeet i p d) s)) ≡ g (is_met i (accepts t (CommitMeet i p d) s))) → Meets o t i n f s u → Meets o t i m g s u
meets_as o t i n m f g s _ e h k (within_limit died a b) =
    subst (Meets o t i m g s) (sym (k n died ∙ ap (λ p. g (is_met i (accepts t (CommitMeet i p died) s))) e))
    (within_limit died (subst (λ z. waiting z ≤ o.limit) h a) (subst (λ z. deaths z ≡ deaths s + died) h b))
meets_as o t i n m f g s _ e h k (past_limit more a b) = past_limit more (subst (λ z. waiting z ≡ waiting s + more) h a) b

forms_none : (s : State) → forms [] s ≡ s
forms_none s = ap (λ ps. record s { pairs = ps }) (append-nil s.pairs)

-- kills of facts that rise, and the overlaps behind them
visited_kills : (killer : ℕ) (ks : List ℕ) (fs : List Formed) (es : List Entry) (s : State) → AreRising 0 ks → s.entries ≡ es → visited killer (alive_of es ks) fs s ≡ forms fs (each (kills killer) ks s)
visited_kills killer ks fs es s r e =
    ap (forms fs) (sym (all_die killer (alive_of es ks) s) ∙ ap (λ z. each (dies killer) (alive_of z ks) s) (sym e) ∙ sym (kills_alive killer ks s (rising_differ 0 ks r)))

visited_one : (killer i : ℕ) (es : List Entry) (s : State) → s.entries ≡ es → visited killer (alive_of es (i ∷ [])) [] s ≡ kills killer i s
visited_one killer i es s e = visited_kills killer (i ∷ []) [] es s (omega arith, tt) e ∙ forms_none (kills killer i s)

visited_none : (killer : ℕ) (s : State) → visited killer [] [] s ≡ s
visited_none killer s = forms_none (all_dead killer [] s) ∙ sym (all_die killer [] s)

pub stale : (o : Opening) (t : Out) (i killer : ℕ) (s u : State) → s.verdict ≡ None → t.job ≡ Meet i
    → Meets o t i (newly_waiting [] (all_dead killer (alive_of s.entries (i ∷ [])) s)) (visited killer (alive_of s.entries (i ∷ [])) []) s u → Commits o t (Stale killer) s u
stale o t i killer s u open_ job m =
    fact_is_stale i open_ job (meets_as o t i (newly_waiting [] (all_dead killer (alive_of s.entries (i ∷ [])) s)) 0 (visited killer (alive_of s.entries (i ∷ [])) []) (kills killer i) s u refl
    (visited_one killer i s.entries s refl) (λ p d. visited_one killer i s.entries (is_met i (accepts t (CommitMeet i p d) s)) refl) m)

pub dead_met : (o : Opening) (t : Out) (i : ℕ) (ks : List ℕ) (fs : List Formed) (s u : State) → s.verdict ≡ None → t.job ≡ Meet i → is_dead s.entries i ≡ true
    → Meets o t i (newly_waiting [] (all_dead i [] s)) (visited i [] []) s u → Commits o t (Met ks fs) s u
dead_met o t i ks fs s u open_ job dead m =
    fact_is_dead i open_ job dead (meets_as o t i (newly_waiting [] (all_dead i [] s)) 0 (visited i [] []) stays s u refl
    (visited_none i s) (λ p d. visited_none i (is_met i (accepts t (CommitMeet i p d) s))) m)

pub met : (o : Opening) (t : Out) (i : ℕ) (ks : List ℕ) (fs : List Formed) (s u : State) → s.verdict ≡ None → t.job ≡ Meet i → is_dead s.entries i ≡ false → AreRising 0 ks
    → Meets o t i (newly_waiting fs (all_dead i (alive_of s.entries ks) s)) (visited i (alive_of s.entries ks) fs) s u → Commits o t (Met ks fs) s u
met o t i ks fs s u open_ job alive rising m =
    let same : all_dead i (alive_of s.entries ks) s ≡ each (kills i) ks s = sym (all_die i (alive_of s.entries ks) s) ∙ sym (kills_alive i ks s (rising_differ 0 ks rising)) in
    fact_meets i open_ job alive (meets_as o t i (newly_waiting fs (all_dead i (alive_of s.entries ks) s)) (newly_waiting fs (each (kills i) ks s)) (visited i (alive_of s.entries ks) fs) (visits i ks fs) s u (ap (newly_waiting fs) same)
    (visited_kills i ks fs s.entries s rising refl) (λ p d. visited_kills i ks fs s.entries (is_met i (accepts t (CommitMeet i p d) s)) rising refl) m)
