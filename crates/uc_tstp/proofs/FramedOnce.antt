-- A text has one frame, or one reason why it has none.
use Rattle.std.proofs.Common.{◌≡◌, ℕ, ◌+◌, Bool, true, false, List, drop, Option, Some, None, Result, refl, ap, subst}
use Rattle.std.specs.Prelude.{slice_range}
use Rattle.uc_tstp.specs.declared.fault.ProofFault.{ProofFault}
use Rattle.uc_tstp.specs.declared.framing.Frame.{Frame}
use Rattle.uc_tstp.specs.declared.framing.Span.{Span}
use Rattle.uc_tstp.specs.declared.framing.Border.TheVariants.{Start, End}
use Rattle.uc_tstp.specs.Framing.{line_length, is_border, is_same_name, FirstLine, no_line, this_line, later_line, Framed, no_start, no_end, other_name, framed}
use Rattle.uc_tstp.proofs.Outcomes.{yes_or_no, some_once, some_or_none}

module _ (test : List ℕ → Bool) (text : List ℕ) where
  this_or_later : (at m n : ℕ) → line_length (drop at text) ≡ Some m → line_length (drop at text) ≡ Some n → test (slice_range text at (at + m)) ≡ true → test (slice_range text at (at + n)) ≡ false → ⊥
  this_or_later at m n l k e f = yes_or_no e (subst (λ i. test (slice_range text at (at + i)) ≡ false) (some_once k l) f)

  pub line_once : {at : ℕ} {f g : Option Span} → FirstLine test text at f → FirstLine test text at g → f ≡ g
  line_once (no_line n) (no_line m) = refl
  line_once (no_line n) (this_line l e) = absurd (some_or_none l n)
  line_once (no_line n) (later_line l e r) = absurd (some_or_none l n)
  line_once (this_line l e) (no_line n) = absurd (some_or_none l n)
  line_once {at} (this_line {n = m} l e) (this_line {n = n} k f) = ap (λ i. let s : Span = record { first = at; feed = at + i } in Some s) (some_once l k)
  line_once {at} (this_line {n = m} l e) (later_line {n = n} k f r) = absurd (this_or_later at m n l k e f)
  line_once (later_line l e r) (no_line n) = absurd (some_or_none l n)
  line_once {at} (later_line {n = m} l e r) (this_line {n = n} k f) = absurd (this_or_later at n m k l f e)
  line_once {at} {f} {g} (later_line l e r) (later_line k d s) = line_once r (subst (λ i. FirstLine test text (at + i + 1) g) (some_once k l) s)

module _ (text : List ℕ) where
  abbrev Starts : Option Span → Type 0
  Starts found = FirstLine (is_border Start) text 0 found

  abbrev Ends : Span → Option Span → Type 0
  Ends start found = FirstLine (is_border End) text (start.feed + 1) found

  start_once : {s t : Span} → Starts (Some s) → Starts (Some t) → s ≡ t
  start_once {s} {t} a b = let e = line_once (is_border Start) text a b in cc

  no_or_start : {t : Span} → Starts None → Starts (Some t) → ⊥
  no_or_start {t} a b = let e = line_once (is_border Start) text a b in absurd cc

  end_once : {s t : Span} {f g : Option Span} → Starts (Some s) → Starts (Some t) → Ends s f → Ends t g → f ≡ g
  end_once {s} {t} {f} {g} a b x y = line_once (is_border End) text x (subst (λ u. Ends u g) (start_once b a) y)

  some_end_once : {s t e d : Span} → Starts (Some s) → Starts (Some t) → Ends s (Some e) → Ends t (Some d) → e ≡ d
  some_end_once a b x y = let h = end_once a b x y in cc

  no_or_end : {s t d : Span} → Starts (Some s) → Starts (Some t) → Ends s None → Ends t (Some d) → ⊥
  no_or_end a b x y = let h = end_once a b x y in absurd cc

  one_name : {s t e d : Span} → Starts (Some s) → Starts (Some t) → Ends s (Some e) → Ends t (Some d) → is_same_name text s e ≡ true → is_same_name text t d ≡ false → ⊥
  one_name {s} {t} {e} {d} a b x y h k = yes_or_no h (subst (λ u. is_same_name text u e ≡ false) (start_once b a) (subst (λ u. is_same_name text t u ≡ false) (some_end_once b a y x) k))

  pub framed_once : {a b : Result Frame ProofFault} → Framed text a → Framed text b → a ≡ b
  framed_once (no_start a) (no_start b) = refl
  framed_once (no_start a) (no_end b y) = absurd (no_or_start a b)
  framed_once (no_start a) (other_name b y n) = absurd (no_or_start a b)
  framed_once (no_start a) (framed b y n) = absurd (no_or_start a b)
  framed_once (no_end a x) (no_start b) = absurd (no_or_start b a)
  framed_once (no_end a x) (no_end b y) = refl
  framed_once (no_end a x) (other_name b y n) = absurd (no_or_end a b x y)
  framed_once (no_end a x) (framed b y n) = absurd (no_or_end a b x y)
  framed_once (other_name a x m) (no_start b) = absurd (no_or_start b a)
  framed_once (other_name a x m) (no_end b y) = absurd (no_or_end b a y x)
  framed_once (other_name {end = e} a x m) (other_name {end = d} b y n) = let ends : e ≡ d = some_end_once a b x y in rw ends refl
  framed_once (other_name a x m) (framed b y n) = absurd (one_name b a y x n m)
  framed_once (framed a x m) (no_start b) = absurd (no_or_start b a)
  framed_once (framed a x m) (no_end b y) = absurd (no_or_end b a y x)
  framed_once (framed a x m) (other_name b y n) = absurd (one_name a b x y m n)
  framed_once (framed {start = s} {end = e} a x m) (framed {start = t} {end = d} b y n) =
      let starts : s ≡ t = start_once a b in
      let ends : e ≡ d = some_end_once a b x y in
      rw (starts, ends) refl
