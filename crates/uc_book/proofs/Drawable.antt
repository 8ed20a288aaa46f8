-- What the job of a drawn task names is there.
use Rattle.std.proofs.Common.{◌≡◌, ℕ, zero, suc, ◌+◌, ◌<◌, List, [], ◌∷◌, length, slice_get, Some, ap, sym, ◌∙◌, arith, subst}
use Rattle.std.specs.Prelude.{◌≢◌}
use Rattle.uc_order.specs.Laws.{Meaning}
use Rattle.uc_ledger.specs.declared.ledger.State.TheVariants.{Waiting, Orphan, Large}
use Rattle.uc_shelf.specs.declared.entry.Entry.{Entry}
use Rattle.uc_shelf.specs.Entries.{born}
use Rattle.uc_queue.specs.declared.entry.Entry.{Entry as Place}
use Rattle.uc_machine.specs.Lists.{Each, change}
use Rattle.uc_machine.specs.State.{Opening, State, Pair, Out, peek, is_unmet, is_due, is_continued, Target}
use Rattle.uc_machine.specs.Effects.{drops}
use Rattle.uc_machine.specs.Draws.{Reply, Drew, Idle, Drained, Closed, Draws, verdict_stands, goal_is_due, fact_is_unmet, orphan_is_dropped, goal_is_continued, pair_is_drawn, budget_is_out, budget_is_spent, all_is_out, all_is_done}
use Rattle.uc_machine.specs.Origins.{IsKnownOrigin, CanCompute}
use Rattle.uc_machine.proofs.Lists.{below}
use Rattle.uc_machine.proofs.Calls.{waits_is}
use Rattle.uc_machine.proofs.Found.{IsPlace, peek_is, first_is}

module _ (m : Meaning) (o : Opening) where
  abbrev Known : List Entry → Pair → Type 0
  Known es x = x.condition ≢ Large → IsKnownOrigin m o.axioms es x.origin

  -- a pair that waited and is an orphan is still known
  known_dropped : (es : List Entry) (ps : List Pair) (k : ℕ) (x : Pair) → slice_get ps k ≡ Some x → x.condition ≡ Waiting → Each (Known es) ps → Each (Known es) (change (λ (y : Pair). record y { condition = Orphan }) ps k)
  known_dropped es [] k x at w e = tt
  known_dropped es (p ∷ ps) zero x at w e = ((let same : p ≡ x = cc in let f : p.condition ≡ Waiting = ap (λ (z : Pair). z.condition) same ∙ w in λ n. (e.0 (λ l. (let g : Waiting ≡ Large = sym f ∙ l in absurd (cc))))), e.1)
  known_dropped es (p ∷ ps) (suc k) x at w e = (e.0, known_dropped es ps k x at w e.1)

  known_at : (es : List Entry) (ps : List Pair) (k : ℕ) (x : Pair) → slice_get ps k ≡ Some x → Each (Known es) ps → Known es x
  known_at es [] k x at e = absurd (cc)
  known_at es (p ∷ ps) zero x at e = (let same : p ≡ x = cc in subst (Known es) same e.0)
  known_at es (p ∷ ps) (suc k) x at e = known_at es ps k x at e.1

  abbrev IfDrew : Reply → (Out → Type 0) → Type 0
  IfDrew (Drew t) P = P t
  IfDrew (Idle n) P = Unit {0}
  IfDrew Drained P = Unit {0}
  IfDrew (Closed v) P = Unit {0}

  waits_at : (s : State) (q : Place) → peek s ≡ Some q → (x : Pair) → slice_get s.pairs q.number ≡ Some x → x.condition ≡ Waiting
  waits_at s q e x at =
      let i : IsPlace 0 s.pairs q = peek_is s q e in
      let z : q.number ≡ i.place = (let y : q.number ≡ 0 + i.place = i.number in omega arith) in
      let f : Some i.pair ≡ Some x = sym i.at ∙ ap (λ n. slice_get s.pairs n) (sym z) ∙ at in
      let same : i.pair ≡ x = cc in
      ap (λ (p : Pair). p.condition) (sym same) ∙ waits_is i.pair.condition i.waits

  -- a pair stands at the queue's head
  record AtHead (s : State) (q : Place) : Type 0 where
    pub pair : Pair
    pub at : slice_get s.pairs q.number ≡ Some pair

  at_head : (s : State) (q : Place) → peek s ≡ Some q → AtHead s q
  at_head s q e = (let i : IsPlace 0 s.pairs q = peek_is s q e in let z : q.number ≡ i.place = (let y : q.number ≡ 0 + i.place = i.number in omega arith) in record { pair = i.pair; at = ap (λ n. slice_get s.pairs n) z ∙ i.at })

  pub can_drawn : (w : ℕ) (s : State) (r : Reply) (u : State) → length s.goals ≡ length o.goals → length s.meetings ≡ length (born s.entries) → Each (Known s.entries) s.pairs → Draws o w s r u → IfDrew r (λ t. CanCompute m o s.entries t.job)
  can_drawn w s _ _ g b k (verdict_stands v e) = tt
  can_drawn w s _ _ g b k (goal_is_due x a e) = (let l : x.number < length s.goals = below s.goals x.number x.here ((first_is (λ (t : Target). is_due t.stage) s.goals x e).at) in subst (λ n. x.number < n) g l)
  can_drawn w s _ _ g b k (fact_is_unmet i a e) = (let l : i.number < length s.meetings = below s.meetings i.number i.here ((first_is is_unmet s.meetings i e).at) in subst (λ n. i.number < n) b l)
  can_drawn w s r u g b k (orphan_is_dropped p a e c d) = (let h = at_head s p e in can_drawn w (drops w p.number s) r u g b (known_dropped s.entries s.pairs p.number h.pair h.at (waits_at s p e h.pair h.at) k) d)
  can_drawn w s _ _ g b k (goal_is_continued x a e c) = (let l : x.number < length s.goals = below s.goals x.number x.here ((first_is (λ (t : Target). is_continued t.stage) s.goals x e).at) in subst (λ n. x.number < n) g l)
  can_drawn w s _ _ g b k (pair_is_drawn p x a e f at c) = known_at s.entries s.pairs p.number x at k (λ l. (let w2 : x.condition ≡ Waiting = waits_at s p f x at in let h : Waiting ≡ Large = sym w2 ∙ l in absurd (cc)))
  can_drawn w s _ _ g b k (budget_is_out a e c d) = tt
  can_drawn w s _ _ g b k (budget_is_spent a e c d) = tt
  can_drawn w s _ _ g b k (all_is_out a e c) = tt
  can_drawn w s _ _ g b k (all_is_done a e c) = tt
