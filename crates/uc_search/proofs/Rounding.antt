-- Rounds, one after another, with their final passes counted.
use Rattle.std.proofs.Common.{◌≡◌, ℕ, ◌+◌, ◌^◌, ◌<◌, Some, None, sym, ap, ◌∙◌, arith}
use Rattle.uc_order.specs.Laws.{Meaning}
use Rattle.uc_machine.specs.declared.event.Verdict.{Verdict}
use Rattle.uc_machine.specs.State.{Opening, State}
use Rattle.uc_search.specs.Searching.{Searches, last_round, next_round}
use Rattle.uc_search.specs.Bounds.{passes_of, passes_in, counted_on, CountedRound, CountedSearch}
use Rattle.uc_search.proofs.Passes.{none_counted, both_counted}

module _ (m : Meaning) (o : Opening) (w : ℕ) (start : State) where
  -- so many passes were made since the start; a search from this state goes on to one from the start, with as many passes more
  pub record LeadsOn (s : State) (old now : ℕ) : Type 0 where
    pub made : ℕ
    pub counted : now ≡ counted_on old made
    pub on : (v : Verdict) (u : State) (x : Searches m o w s v u) → (y : Searches m o w start v u) × (passes_in y ≡ made + passes_in x)

  pub leads_from_start : (old : ℕ) → old < 2 ^ 64 → LeadsOn start old old
  leads_from_start old few = record { made = 0; counted = none_counted old few; on = λ v u x. (x, (let e : passes_in x ≡ 0 + passes_in x = omega arith in e)) }

  pub leads_further : (s u : State) (old now new : ℕ) → LeadsOn s old now → CountedRound m o w s None u now new → LeadsOn u old new
  leads_further s u old now new a r = record {
    made = a.made + passes_of r.round;
    counted = both_counted old now new a.made (passes_of r.round) a.counted r.passes;
    on = λ v t x. (let y = a.on v t (next_round r.round x) in
        (y.0, (let e : passes_in y.0 ≡ a.made + (passes_of r.round + passes_in x) = y.1 in let f : passes_in y.0 ≡ (a.made + passes_of r.round) + passes_in x = omega arith in f)));
  }

  pub leads_to_end : (s u : State) (v : Verdict) (old now new : ℕ) → LeadsOn s old now → CountedRound m o w s (Some v) u now new → CountedSearch m o w start v u old new
  leads_to_end s u v old now new a r =
      let y = a.on v u (last_round r.round) in
      record {
        searches = y.0;
        passes = both_counted old now new a.made (passes_of r.round) a.counted r.passes ∙ ap (λ n. counted_on old n) (sym y.1);
      }
