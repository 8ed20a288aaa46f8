-- The facts that live stand by rising numbers.
use Rattle.std.specs.Prelude.{ℕ, ◌+◌, ◌≤◌, List, [], ◌∷◌, Bool, true, false, cond, not, filter}
use Rattle.std.proofs.Common.{arith}
use Rattle.uc_term.specs.declared.equation.Equation.{Equation}
use Rattle.uc_fact.specs.Live.{Live, RiseFrom, AreRising, numbered_from}
use Rattle.uc_shelf.specs.declared.entry.Entry.{Entry}
use Rattle.uc_shelf.specs.Entries.{equations, is_dead, live}

pub rise_on : (n m : ℕ) (fs : List Live) → n ≤ m → RiseFrom m fs → RiseFrom n fs
rise_on n m [] h r = tt
rise_on n m (f ∷ fs) h r = (omega (arith, r.0), r.1)

first_rises : (n : ℕ) (e : Equation) (fs : List Live) (b : Bool) → RiseFrom (n + 1) fs → RiseFrom n (cond b (record { number = n; equation = e } ∷ fs) fs)
first_rises n e fs true r = (omega arith, r)
first_rises n e fs false r = rise_on n (n + 1) fs (omega arith) r

pub filtered_rise : (p : Live → Bool) (n : ℕ) (es : List Equation) → RiseFrom n (filter p (numbered_from n es))
filtered_rise p n [] = tt
filtered_rise p n (e ∷ es) = first_rises n e (filter p (numbered_from (n + 1) es)) (p (record { number = n; equation = e })) (filtered_rise p (n + 1) es)

-- the numbers of the facts that live rise
pub live_rise : (entries : List Entry) → AreRising (live entries)
live_rise entries = filtered_rise (λ f. not (is_dead entries f.number)) 0 (equations entries)
