-- The visited prefixes of a search, step by step.
use Rattle.std.proofs.Common.{◌≡◌, ◌≢◌, ℕ, ◌+◌, ◌≤◌, ◌<◌, List, [], ◌∷◌, ◌++◌, length, refl, ap, sym, ◌∙◌, arith, subst, length-append}
use Rattle.uc_table.specs.declared.search_size.Rules.{Rules}
use Rattle.uc_table.specs.declared.search_size.State.{State}
use Rattle.std.specs.Prelude.{slice_get, Some}
use Rattle.uc_table.specs.declared.search_instances.Form.{Form}
use Rattle.uc_table.specs.Tables.{AreValues, MOST_CELLS}
use Rattle.uc_table.specs.SearchPrefixes.{front, AreAll}
use Rattle.uc_table.specs.SearchWaiting.{IsWell}
use Rattle.uc_table.specs.SearchInstances.{AreOf, AreSettled}
use Rattle.uc_table.specs.SearchState.{AreLevels, IsOpenState, IsRefutedIn, AreSeen, GoesOn, IsWhole, StepsBack, EndsFound, EndsNone, EndsSpent, AreStepsOf, IsReady}
use Rattle.uc_table.proofs.SearchOrder.{front_last}
use Rattle.uc_table.proofs.SearchVisits.{At, seen_start, visits_next, first_seen, further, seen_refuted, seen_deeper, seen_found, seen_back, seen_all, none_open, refuted_all, refuted_none}
use Rattle.uc_table.proofs.SearchLonger.{refuted_more, settled_open}
use Rattle.uc_table.proofs.SearchLevels.{top_settled}

module _ (rules : Rules) where
  abbrev pub more : (p r : List ℕ) → IsRefutedIn rules p → IsRefutedIn rules (p ++ r)
  more p r h = refuted_more p r rules.size rules.forms.items h

  abbrev pub AtOpen : List ℕ → Type 0
  AtOpen p = At rules.size rules.cells (IsRefutedIn rules) more p

  pub is_open_prefix : (s : State) → IsOpenState rules s → IsRefutedIn rules s.prefix.items → ⊥
  is_open_prefix s o h = settled_open rules.size s.prefix.items rules.forms.items s.waiting.entries.items (top_settled rules s.prefix.items s.marks.items (length s.prefix.items) s.waiting.entries.items refl o.levels) h

  pub at_open : (s : State) → IsOpenState rules s → AtOpen s.prefix.items
  at_open s o = record { below = o.sound.values; open_is = is_open_prefix s o }

  pub same_front : (p q : List ℕ) (a b : ℕ) → p ++ a ∷ [] ≡ q ++ b ∷ [] → p ≡ q
  same_front p q a b e = sym (front_last p a) ∙ ap front e ∙ front_last q b

  pub after_refuted : (old new : List ℕ) (value : ℕ) → AtOpen old → value < rules.size → length old < rules.cells → IsRefutedIn rules (old ++ value ∷ []) → new ≡ old → GoesOn rules old value new (value + 1)
  after_refuted old new value a l m h e = record {
    seen = λ ps s. subst (λ z. AreSeen rules z (value + 1) (ps ++ (old ++ value ∷ []) ∷ [])) (sym e) (seen_refuted rules.size rules.cells (IsRefutedIn rules) more old value ps a s l m h);
    room = subst (λ (z : List ℕ). length z < rules.cells) (sym e) m;
    short = subst (λ (z : List ℕ). length z ≤ length old + 1) (sym e) (omega arith);
  }

  pub after_open : (old new : List ℕ) (value : ℕ) → AtOpen old → value < rules.size → new ≡ old ++ value ∷ [] → length new ≤ rules.cells → length new ≢ rules.cells → GoesOn rules old value new 0
  after_open old new value a l e m n =
      let k : length new ≡ length old + 1 = ap length e ∙ length-append old (value ∷ []) in
      let room : length new < rules.cells = less (length new) rules.cells m n in
      record {
        seen = λ ps s. subst (λ z. AreSeen rules z 0 (ps ++ (old ++ value ∷ []) ∷ [])) (sym e) (seen_deeper rules.size rules.cells (IsRefutedIn rules) more old value ps a s l (omega arith));
        room = room;
        short = omega arith;
      }
    where
      less : (a b : ℕ) → a ≤ b → a ≢ b → a < b
      less a b l n = omega arith

  pub after_whole : (old : List ℕ) (t : State) (value : ℕ) → AtOpen old → value < rules.size → t.prefix.items ≡ old ++ value ∷ [] → length t.prefix.items ≡ rules.cells → IsOpenState rules t → IsWhole rules old value t.prefix.items
  after_whole old t value a l e m o = record {
    all = λ ps s. subst (λ z. AreAll rules.size rules.cells (IsRefutedIn rules) (ps ++ z ∷ [])) (sym e) (seen_found rules.size rules.cells (IsRefutedIn rules) more old value ps a s l (let k : length t.prefix.items ≡ length old + 1 = ap length e ∙ length-append old (value ∷ []) in omega arith) (λ h. is_open_prefix t o (subst (IsRefutedIn rules) (sym e) h)));
    open_is = record { whole = m; below = o.sound.values; open_is = is_open_prefix t o };
  }

  pub stepped_back : (old new : List ℕ) (v : ℕ) → old ≡ new ++ v ∷ [] → length old ≤ rules.cells → StepsBack rules old new (v + 1)
  stepped_back old new v e l =
      let k : length old ≡ length new + 1 = ap length e ∙ length-append new (v ∷ []) in
      record {
        seen = λ ps value m s. seen_back rules.size rules.cells (IsRefutedIn rules) more new v value ps (subst (λ z. AreSeen rules z value ps) e s) m;
        room = omega arith;
        shorter = omega arith;
      }

  -- so many prefixes are visited, and this value is due behind an open prefix that isn't whole
  pub record IsGoing (budget : ℕ) (s : State) (next visited : ℕ) : Type 0 where
    pub open_is : IsOpenState rules s
    pub room : length s.prefix.items < rules.cells
    pub small : next ≤ rules.size
    pub ps : List (List ℕ)
    pub seen : AreSeen rules s.prefix.items next ps
    pub count_is : visited ≡ length ps
    pub within : visited ≤ budget

  pub going_start : (budget : ℕ) (s : State) → IsOpenState rules s → s.prefix.items ≡ [] → 0 < rules.cells → IsGoing budget s 0 0
  going_start budget s o e l = record {
    open_is = o;
    room = subst (λ (z : List ℕ). length z < rules.cells) (sym e) l;
    small = omega arith;
    ps = [];
    seen = subst (λ z. AreSeen rules z 0 []) (sym e) (seen_start rules.size rules.cells (IsRefutedIn rules) more l);
    count_is = refl;
    within = omega arith;
  }

  pub going_on : (budget : ℕ) (s t : State) (value next visited : ℕ) → IsGoing budget s value visited → visited < budget → IsOpenState rules t → GoesOn rules s.prefix.items value t.prefix.items next → next ≤ rules.size → IsGoing budget t next (visited + 1)
  going_on budget s t value next visited g l o h m = record {
    open_is = o;
    room = h.room;
    small = m;
    ps = g.ps ++ (s.prefix.items ++ value ∷ []) ∷ [];
    seen = h.seen g.ps g.seen;
    count_is = (let c : visited ≡ length g.ps = g.count_is in let n : length (g.ps ++ (s.prefix.items ++ value ∷ []) ∷ []) ≡ length g.ps + 1 = length-append g.ps ((s.prefix.items ++ value ∷ []) ∷ []) in omega arith);
    within = omega arith;
  }

  pub going_back : (budget : ℕ) (s t : State) (value next visited : ℕ) → IsGoing budget s value visited → rules.size ≤ value → IsOpenState rules t → StepsBack rules s.prefix.items t.prefix.items next → next ≤ rules.size → IsGoing budget t next visited
  going_back budget s t value next visited g l o h m = record {
    open_is = o;
    room = h.room;
    small = m;
    ps = g.ps;
    seen = h.seen g.ps value l g.seen;
    count_is = g.count_is;
    within = g.within;
  }

  pub ends_found : (budget : ℕ) (s : State) (t : List ℕ) (value visited : ℕ) → IsGoing budget s value visited → visited < budget → IsWhole rules s.prefix.items value t → EndsFound rules budget t (visited + 1)
  ends_found budget s t value visited g l h = record {
    ps = g.ps;
    all = h.all g.ps g.seen;
    open_is = h.open_is;
    count_is = (let c : visited ≡ length g.ps = g.count_is in let n : length (g.ps ++ t ∷ []) ≡ length g.ps + 1 = length-append g.ps (t ∷ []) in omega arith);
    within = omega arith;
  }

  pub ends_none : (budget : ℕ) (s : State) (value visited : ℕ) → IsGoing budget s value visited → rules.size ≤ value → s.prefix.items ≡ [] → EndsNone rules budget visited
  ends_none budget s value visited g l e =
      let seen : AreSeen rules [] value g.ps = subst (λ z. AreSeen rules z value g.ps) e g.seen in
      record {
        ps = g.ps;
        all = seen_all rules.size rules.cells (IsRefutedIn rules) more value g.ps seen l;
        none = none_open rules.size rules.cells (IsRefutedIn rules) more value g.ps seen l;
        count_is = g.count_is;
        within = g.within;
      }

  pub ends_spent : (budget : ℕ) (s : State) (value visited : ℕ) → IsGoing budget s value visited → value < rules.size → visited ≡ budget → EndsSpent rules budget
  ends_spent budget s value visited g l e = record {
    ps = g.ps;
    first = first_seen rules.size rules.cells (IsRefutedIn rules) more s.prefix.items value g.ps g.seen;
    count_is = sym g.count_is ∙ e;
    p = s.prefix.items ++ value ∷ [];
    due = visits_next rules.size rules.cells (IsRefutedIn rules) more s.prefix.items value g.ps (at_open s g.open_is) g.seen l g.room;
    further = further rules.size rules.cells (IsRefutedIn rules) more s.prefix.items value g.ps g.seen;
  }

  -- the empty prefix is refuted
  pub ends_refuted : (budget : ℕ) → IsRefutedIn rules [] → EndsNone rules budget 0
  ends_refuted budget h = record {
    ps = [];
    all = refuted_all rules.size rules.cells (IsRefutedIn rules) more h;
    none = refuted_none rules.size rules.cells (IsRefutedIn rules) more h;
    count_is = refl;
    within = omega arith;
  }

  pub open_start : (s : State) → s.prefix.items ≡ [] → s.marks.items ≡ [] → IsWell s.waiting → AreOf rules.forms.items s.waiting.entries.items → AreSettled rules.size [] rules.forms.items s.waiting.entries.items → IsOpenState rules s
  open_start s p m w o h = record {
    sound = record {
      well = w;
      of = o;
      values = subst (AreValues rules.size) (sym p) tt;
      as_many = ap length m ∙ sym (ap length p);
      short = (let e : length s.prefix.items ≡ 0 = ap length p in omega arith);
    };
    levels = subst (λ z. AreLevels rules z s.marks.items (length z) s.waiting.entries.items) (sym p) h;
  }

pub ready : (rules : Rules) (room n : ℕ) → 0 < rules.size → rules.cells ≤ MOST_CELLS → AreStepsOf rules → ((k : ℕ) (f : Form) → slice_get rules.forms.items k ≡ Some f → length f.steps.items + 2 ≤ n) → n ≡ room → IsReady room rules
ready rules room n s l h r e = record { some = s; few = l; forms = λ k f g. record { steps = (h k f g).0; reads = (h k f g).1; short = subst (λ z. length f.steps.items + 2 ≤ z) e (r k f g) } }
