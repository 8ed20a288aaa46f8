-- What steps come to under a longer prefix, and what is settled under it.
use Rattle.std.proofs.Common.{◌≡◌, ℕ, ◌+◌, ◌≤◌, ◌<◌, List, [], ◌∷◌, ◌++◌, length, take, drop, refl, sym, ◌∙◌, arith, subst, inl, inr, length-append, get_or}
use Rattle.std.specs.Prelude.{slice_get, nat_lt, Option, Some, None}
use Rattle.std.proofs.lemmas.Bool.{cases_order, cases_Bool}
use Rattle.std.proofs.lemmas.Option.{slice_get_within, slice_get-get_or}
use Rattle.uc_table.specs.declared.search_steps.Step.{Step}
use Rattle.uc_table.specs.declared.search_steps.Step.TheVariants.{Variable, Apply, Foreign}
use Rattle.uc_table.specs.declared.search_waiting.Entry.{Entry}
use Rattle.uc_table.specs.declared.search_instances.Form.{Form}
use Rattle.uc_table.specs.Algebras.{place_of}
use Rattle.uc_table.specs.SearchSteps.{Ran, stops, waits, breaks, go_on, read, take_step, run}
use Rattle.uc_table.specs.SearchInstances.{ran, Has, Extends, IsSettledBy, IsSettled, AreSettledBelow, AreSettled, IsRefutedBy}
use Rattle.uc_table.proofs.SearchSettling.{get_more, has_extends}

-- what a prefix of m cells and a longer one of n make of it: values stay, and so does a cell that the longer one doesn't reach
pub data Stays (m n : ℕ) : Ran → Ran → Type 0 where
  stopped : {stack : List ℕ} → Stays m n (stops stack) (stops stack)
  waited : {c : ℕ} → n ≤ c → Stays m n (waits c) (waits c)
  reached : {c : ℕ} {r : Ran} → m ≤ c → c < n → Stays m n (waits c) r
  broken : Stays m n breaks breaks

none_past : (p : List ℕ) (c : ℕ) → slice_get p c ≡ None → length p ≤ c
none_past p c e = elim (cases_order c (length p)) [
  | inl z ↦ omega arith
  | inr h ↦ (elim h [ inl z ↦ absurd (not_none (get_or p c 0) (sym e ∙ slice_get-get_or p c 0 z)) | inr z ↦ omega arith ])
]
  where
    not_none : (v : ℕ) → None ≡ Some v → ⊥
    not_none v e = cc

module _ (p q : List ℕ) where
  stays_read : (c : ℕ) (stack : List ℕ) → Stays (length p) (length (p ++ q)) (read (slice_get p c) c stack) (read (slice_get (p ++ q) c) c stack)
  stays_read c stack = of (slice_get p c) refl
    where
      past : (o : Option ℕ) → slice_get p c ≡ None → slice_get (p ++ q) c ≡ o → Stays (length p) (length (p ++ q)) (waits c) (read o c stack)
      past None e f = waited (none_past (p ++ q) c f)
      past (Some v) e f = reached (none_past p c e) (slice_get_within (p ++ q) c v f)

      of : (o : Option ℕ) → slice_get p c ≡ o → Stays (length p) (length (p ++ q)) (read o c stack) (read (slice_get (p ++ q) c) c stack)
      of None e = past (slice_get (p ++ q) c) e refl
      of (Some v) e = rw (get_more p q c v e) stopped

  stays_step : (size a : ℕ) (s : Step) (stack : List ℕ) → Stays (length p) (length (p ++ q)) (take_step size a p s stack) (take_step size a (p ++ q) s stack)
  stays_step size a (Variable unit) stack = stopped
  stays_step size a (Apply first n) stack = elim (cases_Bool (nat_lt (length stack) n)) [
    | inl b ↦ rw b broken
    | inr b ↦ rw b (stays_read (first + place_of size (take n stack)) (drop n stack))
  ]
  stays_step size a Foreign stack = broken

  then_stays : (next later : List ℕ → Ran) → ((st : List ℕ) → Stays (length p) (length (p ++ q)) (next st) (later st)) → (r t : Ran) → Stays (length p) (length (p ++ q)) r t → Stays (length p) (length (p ++ q)) (go_on r next) (go_on t later)
  then_stays next later h (stops st) _ stopped = h st
  then_stays next later h (waits c) _ (waited l) = waited l
  then_stays next later h (waits c) t (reached k l) = reached k l
  then_stays next later h breaks _ broken = broken

  pub stays_run : (size a : ℕ) (ss : List Step) (stack : List ℕ) → Stays (length p) (length (p ++ q)) (run size a p ss stack) (run size a (p ++ q) ss stack)
  stays_run size a [] stack = stopped
  stays_run size a (s ∷ ss) stack = then_stays (run size a p ss) (run size a (p ++ q) ss) (λ st. stays_run size a ss st) (take_step size a p s stack) (take_step size a (p ++ q) s stack) (stays_step size a s stack)

  stops_stays : (r t : Ran) (stack : List ℕ) → Stays (length p) (length (p ++ q)) r t → r ≡ stops stack → t ≡ stops stack
  stops_stays (stops st) _ stack stopped e = e
  stops_stays (waits c) _ stack (waited l) e = cc
  stops_stays (waits c) t stack (reached k l) e = cc
  stops_stays breaks _ stack broken e = cc

  -- a longer prefix is refuted too
  pub refuted_more : (size : ℕ) (forms : List Form) → IsRefutedBy size p forms → IsRefutedBy size (p ++ q) forms
  refuted_more size forms h = record {
    number = h.number;
    assignment = h.assignment;
    form = h.form;
    form_is = h.form_is;
    small = h.small;
    against = record {
      left = h.against.left;
      right = h.against.right;
      ran_is = stops_stays (ran size p h.form h.assignment) (ran size (p ++ q) h.form h.assignment) (h.against.right ∷ h.against.left ∷ []) (stays_run size h.assignment h.form.steps.items []) h.against.ran_is;
      against = h.against.against;
    };
  }

-- what is settled is not refuted
pub settled_open : (size : ℕ) (p : List ℕ) (forms : List Form) (es : List Entry) → AreSettled size p forms es → IsRefutedBy size p forms → ⊥
settled_open size p forms es s h = (s h.number h.assignment h.form h.form_is h.small).not_against h.against

-- one more cell has a value: what waited there is settled anew, and nothing else changes
module _ (size : ℕ) (p : List ℕ) (v : ℕ) (forms : List Form) (old new : List Entry) (x : Extends old new) (below : AreSettledBelow size (p ++ v ∷ []) forms (length p) 0 old new) where
  settled_one : (k a : ℕ) (f : Form) → slice_get forms k ≡ Some f → IsSettledBy size p f k a old → (r t : Ran) → ran size p f a ≡ r → ran size (p ++ v ∷ []) f a ≡ t → Stays (length p) (length (p ++ v ∷ [])) r t → IsSettledBy size (p ++ v ∷ []) f k a new
  settled_one k a f g s (stops st) _ e d stopped = record {
    not_against = λ h. (let i : ran size (p ++ v ∷ []) f a ≡ stops (h.right ∷ h.left ∷ []) = h.ran_is in s.not_against (record { left = h.left; right = h.right; ran_is = e ∙ sym d ∙ i; against = h.against }));
    waiting = λ c h. cc;
  }
  settled_one k a f g s (waits c) _ e d (waited l) = record {
    not_against = λ h. (let i : ran size (p ++ v ∷ []) f a ≡ stops (h.right ∷ h.left ∷ []) = h.ran_is in cc);
    waiting = λ b h. (let same : c ≡ b = one_cell c b d h in subst (λ z. Has new k a z) same (has_extends old new k a c x (s.waiting c e)));
  }
    where
      one_cell : (c b : ℕ) → ran size (p ++ v ∷ []) f a ≡ waits c → ran size (p ++ v ∷ []) f a ≡ waits b → c ≡ b
      one_cell c b r u = cc
  settled_one k a f g s (waits c) t e d (reached m l) =
      let h : Has old k a c = s.waiting c e in
      let n : length (p ++ v ∷ []) ≡ length p + 1 = length-append p (v ∷ []) in
      let same : c ≡ length p = omega arith in
      let here : IsSettled size (p ++ v ∷ []) forms h.entry.form h.entry.assignment new = below h.place h.entry (omega arith) h.entry_is (h.cell_is ∙ same) in
      moved h.entry.form h.entry.assignment h.number_is h.assignment_is here
    where
      moved : (i b : ℕ) → i ≡ k → b ≡ a → IsSettled size (p ++ v ∷ []) forms i b new → IsSettledBy size (p ++ v ∷ []) f k a new
      moved i b y z h =
          let one : IsSettled size (p ++ v ∷ []) forms k b new = subst (λ u. IsSettled size (p ++ v ∷ []) forms u b new) y h in
          let two : IsSettled size (p ++ v ∷ []) forms k a new = subst (λ u. IsSettled size (p ++ v ∷ []) forms k u new) z one in
          two f g
  settled_one k a f g s breaks _ e d broken = record {
    not_against = λ h. (let i : ran size (p ++ v ∷ []) f a ≡ stops (h.right ∷ h.left ∷ []) = h.ran_is in cc);
    waiting = λ c h. cc;
  }

  pub settled_next : AreSettled size p forms old → AreSettled size (p ++ v ∷ []) forms new
  settled_next s k a f g b = settled_one k a f g (s k a f g b) (ran size p f a) (ran size (p ++ v ∷ []) f a) refl refl (stays_run p (v ∷ []) size a f.steps.items [])
